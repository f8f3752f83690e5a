-- The nearest folders of ids on both sides, and the parents by them.
use Rattle.std.specs.Prelude.{◌≡◌, Bool, true, List, length, Option, None, if◌then◌else◌, unwrap_or, bytes_eq}
use Rattle.std.specs.HashMap.{get}
use Rattle.ss_record.specs.Ids.{has}
use Rattle.ss_dupe.specs.declared.sides.Side.{Side}
use Rattle.ss_dupe.specs.declared.sides.Side.TheVariants.{Local, Remote}
use Rattle.ss_dupe.specs.Looks.{Id, is_in}
use Rattle.ss_dupe.specs.Sides.{Sides}
use Rattle.ss_merge.specs.declared.parents.Folders.{Folders}
use Rattle.ss_merge.specs.Parents.{nearest_folder}

abbrev pub folder_on : Folders → Side → Id → Option Id
folder_on folders Local x = unwrap_or (get bytes_eq folders.local x) None
folder_on folders Remote x = unwrap_or (get bytes_eq folders.remote x) None

-- they are the nearest merged folders of the ids
pub record AreFolders (s : Sides) (ids : List Id) (folders : Folders) : Type 0 where
  pub each : (side : Side) (x : Id) → has x ids ≡ true → folder_on folders side x ≡ nearest_folder s (length ids) side x

-- the parent by a map of a rooted id, else the folder to fall back to
abbrev pub final_by : Sides → Folders → (Id → Option Id) → Bool → Id → Option Id
final_by s folders chosen rooted x = if rooted then chosen x else folder_on folders (if is_in s.remote x then Remote else Local) x
