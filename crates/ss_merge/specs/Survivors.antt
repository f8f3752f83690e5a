-- What survives a merge, and the side whose content is taken. The local items of duplicate pairs have the remote ids.
use Rattle.std.specs.Prelude.{nat_lt, Bool, true, false, not, ◌||◌, ◌&&◌, Option, Some, None, if◌then◌else◌, unwrap_or}
use Rattle.std.specs.Prelude.{bytes_eq}
use Rattle.ss_record.specs.Ids.{same_list}
use Rattle.ss_record.specs.Kinds.{is_folder, same_kind}
use Rattle.ss_tree.specs.Trees.{PlacedItem}
use Rattle.ss_dupe.specs.declared.sides.Side.{Side}
use Rattle.ss_dupe.specs.declared.sides.Side.TheVariants.{Local, Remote}
use Rattle.ss_dupe.specs.Looks.{Id, is_in, at, is_places, is_root}
use Rattle.ss_dupe.specs.Walks.{passes}
use Rattle.ss_dupe.specs.Sides.{Sides, other, tree_of, deleted_on}

-- ---- what differs from the mirror

abbrev pub same_content : PlacedItem → PlacedItem → Bool
same_content a b = same_kind a.kind b.kind && bytes_eq a.content b.content

abbrev pub same_parent : PlacedItem → PlacedItem → Bool
same_parent a b = passes (λ p. passes (bytes_eq p) b.parent) a.parent

abbrev pub same_children : PlacedItem → PlacedItem → Bool
same_children a b = same_list a.children b.children

-- an item that isn't in the mirror differs
unfoldable pub differs : Sides → (PlacedItem → PlacedItem → Bool) → Side → Id → Bool
differs s alike side x = not (is_in s.mirror x) || not (alike (at (tree_of s side) x) (at s.mirror x))

-- its kind, its content or its parent differs from the mirror's
abbrev pub is_changed : Sides → Side → Id → Bool
is_changed s side x = differs s same_content side x || differs s same_parent side x

-- ---- survivors

-- an item of one tree alone stays where it isn't deleted on the other side, or is no folder and was changed
abbrev pub stays : Sides → Side → Id → Bool
stays s side x = not (deleted_on s (other side) x) || (not (is_folder (at (tree_of s side) x).kind) && is_changed s side x)

-- the roots survive, and what is in both trees or stays; `places` is no survivor, it is there anyway
unfoldable pub survives : Sides → Id → Bool
survives s x =
    is_root x || (not (is_places x) &&
    (if is_in s.local x
    then (if is_in s.remote x then true else stays s Local x)
    else (if is_in s.remote x then stays s Remote x else false)))

-- ---- the side that is taken

-- the side on which the item was changed later; at one time the remote one
unfoldable pub newer : Sides → Id → Side
newer s x = if nat_lt (at s.remote x).time (at s.local x).time then Local else Remote

-- the side that has the item, or of two the one on which it differs, or the newer one where it differs on both; None
-- where it differs on neither
unfoldable pub taken : Sides → (PlacedItem → PlacedItem → Bool) → Id → Option Side
taken s alike x =
    if not (is_in s.remote x) then Some Local
    else (if not (is_in s.local x) then Some Remote
    else (if differs s alike Local x
    then (if differs s alike Remote x then Some (newer s x) else Some Local)
    else (if differs s alike Remote x then Some Remote else None)))

-- where it differs on neither, the local side
unfoldable pub side_of : Sides → (PlacedItem → PlacedItem → Bool) → Id → Side
side_of s alike x = unwrap_or (taken s alike x) Local

-- the item with the taken kind and content
unfoldable pub content_of : Sides → Id → PlacedItem
content_of s x = at (tree_of s (side_of s same_content x)) x

-- a survivor whose taken kind is a folder
unfoldable pub is_merged_folder : Sides → Id → Bool
is_merged_folder s x = survives s x && is_folder (content_of s x).kind
