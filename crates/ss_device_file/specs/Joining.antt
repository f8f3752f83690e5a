-- A device of its parts, for private clauses.
use Rattle.std.specs.Prelude.{◌≡◌, ◌==◌, ◌||◌, ◌&&◌, ℕ, List, Bool, true, not, Option, Some, find, length}
use Rattle.std.specs.Prelude.{if◌then◌else◌}
use Rattle.ss_record.specs.declared.readings.Sheet.{Sheet}
use Rattle.ss_record.specs.Records.{reading}
use Rattle.ss_record.specs.Ids.{has, places, roots}
use Rattle.ss_tree.specs.Trees.{PlacedItem, node_ids}
use Rattle.ss_build.specs.Rows.{is_item, rows_of}
use Rattle.ss_build.specs.Built.{built}
use Rattle.ss_device.specs.Device.{Dead, dead_ids, row_ids}
use Rattle.ss_device_file.specs.declared.lines.Version.{Version}
use Rattle.ss_device_file.specs.declared.faults.DeviceFault.{DeviceFault}
use Rattle.ss_device_file.specs.declared.faults.DeviceFault.TheVariants.{BadLine, BadTree, Memory}
use Rattle.ss_device_file.specs.Files.{is_lost, kept_rows}

-- `places` and the roots are in the tree
pub record HasRoots (t : List PlacedItem) : Type 0 where
  pub top : has places (node_ids t) ≡ true
  pub all : (r : List ℕ) → has r roots ≡ true → has r (node_ids t) ≡ true

-- the first of the mirror's items that is neither in the tree nor among the deleted
unfoldable pub lost_of : List Sheet → List PlacedItem → Dead → Option (List ℕ)
lost_of mirror t dead = find (is_lost (built (rows_of mirror)) t dead) (row_ids mirror)

-- a row reads as an item that is neither in the tree nor among the deleted
unfoldable pub loses : List PlacedItem → Dead → Sheet → Bool
loses t dead r = not (has r.id (node_ids t) || has r.id (dead_ids dead)) && is_item (reading r.id r.payload)

abbrev pub IsLostBy : Option (List ℕ) → DeviceFault → Type 0
IsLostBy o (BadLine n) = ⊥
IsLostBy o (BadTree id) = o ≡ Some id
IsLostBy o Memory = Unit {0}

-- the time of the last sync, where no row was forgotten
abbrev pub synced_with : Version → List Sheet → ℕ → ℕ
synced_with v rows time = if length (kept_rows v rows) == length rows then time else 0
