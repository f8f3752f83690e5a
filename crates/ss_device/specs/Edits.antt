-- What edits make of a device, and when they are refused (the rules are this project's).
use Rattle.std.specs.Prelude.{◌≡◌, ◌&&◌, ◌||◌, ℕ, zero, suc, min, List, [], ◌∷◌, ◌++◌, Bool, false, not, if◌then◌else◌}
use Rattle.std.specs.Prelude.{Option, Some, None, length, map, filter, option_map, unwrap_or, bytes_eq, codes}
use Rattle.serde_json.specs.Data.{string, object, put}
use Rattle.ss_text.specs.Time.{last_stamp}
use Rattle.ss_record.specs.Ids.{has, places, roots}
use Rattle.ss_record.specs.Items.{ItemView}
use Rattle.ss_record.specs.Kinds.{is_folder}
use Rattle.ss_record.specs.Marks.{marked_string, plain_text}
use Rattle.ss_record.specs.Payloads.{payload_members}
use Rattle.ss_tree.specs.Trees.{PlacedItem, IsSame, node, node_ids, parent_in}
use Rattle.ss_tree.specs.Entries.{tree}
use Rattle.ss_device.specs.Device.{DeviceView, dead_at}
use Rattle.ss_device.specs.declared.faults.EditFault.{EditFault}
use Rattle.ss_device.specs.declared.faults.EditFault.TheVariants.{NoItem, NotFolder, Twice, Root, Under}

-- the time of an edit at this reading of the clock
abbrev pub edit_time : ℕ → ℕ
edit_time now = min now last_stamp

-- x is top, or top is met within n steps up from x
abbrev pub is_met : List PlacedItem → ℕ → List ℕ → List ℕ → Bool
is_met t zero top x = bytes_eq x top
is_met t (suc n) top x = bytes_eq x top || is_met t n top (parent_in t x)

-- x is top or below it: no way up is longer than the items are many
unfoldable pub is_within : List PlacedItem → List ℕ → List ℕ → Bool
is_within t top x = is_met t (length t) top x

-- all but x
abbrev pub without_id : List ℕ → List (List ℕ) → List (List ℕ)
without_id x xs = filter (λ y. not (bytes_eq x y)) xs

-- ---- what a change makes of an item

-- another content and time
abbrev pub revised_node : List ℕ → ℕ → PlacedItem → PlacedItem
revised_node content time n = record { id = n.id; kind = n.kind; content = content; parent = n.parent; children = n.children; time = time }

-- another time, where it has this id
abbrev pub item_at_time : List ℕ → ℕ → PlacedItem → PlacedItem
item_at_time x time n = record { id = n.id; kind = n.kind; content = n.content; parent = n.parent; children = n.children; time = if bytes_eq n.id x then time else n.time }

-- a last child more
abbrev pub with_child : List ℕ → PlacedItem → PlacedItem
with_child x n = record { id = n.id; kind = n.kind; content = n.content; parent = n.parent; children = n.children ++ x ∷ []; time = n.time }

-- x is no child
abbrev pub left_node : List ℕ → PlacedItem → PlacedItem
left_node x n = record { id = n.id; kind = n.kind; content = n.content; parent = n.parent; children = without_id x n.children; time = n.time }

-- x went to the end of a folder, and all times stay
abbrev pub moved_only : List ℕ → List ℕ → PlacedItem → PlacedItem
moved_only x parent n = record {
  id = n.id;
  kind = n.kind;
  content = n.content;
  parent = if bytes_eq n.id x then Some parent else n.parent;
  children = if bytes_eq n.id parent then without_id x n.children ++ x ∷ [] else without_id x n.children;
  time = n.time;
}

-- ---- what an edit makes of the tree

-- a new item without children
abbrev pub new_node : ℕ → List ℕ → ItemView → PlacedItem
new_node time parent i = record { id = i.id; kind = i.kind; content = i.content; parent = Some parent; children = []; time = time }

-- its parent: it has x as its last child, and the edit's time
abbrev pub with_last : ℕ → List ℕ → PlacedItem → PlacedItem
with_last time x n = record { id = n.id; kind = n.kind; content = n.content; parent = n.parent; children = n.children ++ x ∷ []; time = time }

-- an item was added last under its parent
unfoldable pub tree_after_add : ℕ → List ℕ → ItemView → List PlacedItem → List PlacedItem
tree_after_add time parent i t = new_node time parent i ∷ map (λ n. if bytes_eq n.id parent then with_last time i.id n else n) t

-- the content with another title; a title that begins with U+0001 has one more in front, as a marked text has it
unfoldable pub titled : List ℕ → List ℕ → List ℕ
titled title content = unwrap_or (option_map (λ ms. plain_text (object (put (codes "title") (string (marked_string title)) ms))) (payload_members content)) content

-- an item with another content, and the edit's time
abbrev pub with_title : ℕ → List ℕ → PlacedItem → PlacedItem
with_title time title n = record { id = n.id; kind = n.kind; content = titled title n.content; parent = n.parent; children = n.children; time = time }

unfoldable pub tree_after_rename : ℕ → List ℕ → List ℕ → List PlacedItem → List PlacedItem
tree_after_rename time x title t = map (λ n. if bytes_eq n.id x then with_title time title n else n) t

-- x went from one folder to the end of another one, or of the same: it and both folders have the edit's time
abbrev pub moved_node : ℕ → List ℕ → List ℕ → List ℕ → PlacedItem → PlacedItem
moved_node time x from parent n = record {
  id = n.id;
  kind = n.kind;
  content = n.content;
  parent = if bytes_eq n.id x then Some parent else n.parent;
  children = if bytes_eq n.id parent then without_id x n.children ++ x ∷ [] else without_id x n.children;
  time = if bytes_eq n.id x || bytes_eq n.id from || bytes_eq n.id parent then time else n.time;
}

unfoldable pub tree_after_move : ℕ → List ℕ → List ℕ → List PlacedItem → List PlacedItem
tree_after_move time x parent t = map (moved_node time x (parent_in t x) parent) t

-- a parent that lost x has the edit's time
abbrev pub without_child : ℕ → List ℕ → PlacedItem → PlacedItem
without_child time x n = record { id = n.id; kind = n.kind; content = n.content; parent = n.parent; children = without_id x n.children; time = time }

-- x is gone with all below it
unfoldable pub tree_after_delete : ℕ → List ℕ → List PlacedItem → List PlacedItem
tree_after_delete time x t = map (λ n. if bytes_eq n.id (parent_in t x) then without_child time x n else n) (filter (λ n. not (is_within t x n.id)) t)

-- ---- what an edit makes of a device

-- the tree is this one, each id was deleted at the time that is told of it or not at all, and the rest stays
pub record EditsDevice (old new : DeviceView) (t : List PlacedItem) (told : List ℕ → Option ℕ) : Type 0 where
  pub same : IsSame (tree new.tree) t
  pub dead : (y : List ℕ) → dead_at y new.dead ≡ told y
  pub mirror : new.mirror ≡ old.mirror
  pub stamp : new.stamp ≡ old.stamp

abbrev pub AddsItem : ℕ → List ℕ → ItemView → DeviceView → DeviceView → Type 0
AddsItem now parent i old new =
    EditsDevice old new (tree_after_add (edit_time now) parent i (tree old.tree)) (λ y. if bytes_eq y i.id then None else dead_at y old.dead)

abbrev pub RenamesItem : ℕ → List ℕ → List ℕ → DeviceView → DeviceView → Type 0
RenamesItem now x title old new = EditsDevice old new (tree_after_rename (edit_time now) x title (tree old.tree)) (λ y. dead_at y old.dead)

abbrev pub MovesItem : ℕ → List ℕ → List ℕ → DeviceView → DeviceView → Type 0
MovesItem now x parent old new = EditsDevice old new (tree_after_move (edit_time now) x parent (tree old.tree)) (λ y. dead_at y old.dead)

abbrev pub DeletesItem : ℕ → List ℕ → DeviceView → DeviceView → Type 0
DeletesItem now x old new =
    EditsDevice old new (tree_after_delete (edit_time now) x (tree old.tree)) (λ y. if is_within (tree old.tree) x y then Some (edit_time now) else dead_at y old.dead)

-- ---- refusals, the first that holds

-- the tree has no such item
abbrev pub lacks_item : List PlacedItem → List ℕ → Bool
lacks_item t x = not (has x (node_ids t))

-- `places` or a root
abbrev pub is_fixed : List ℕ → Bool
is_fixed x = bytes_eq x places || has x roots

-- a folder other than `places`
abbrev pub takes_items : List PlacedItem → List ℕ → Bool
takes_items t x = not (bytes_eq x places) && unwrap_or (option_map (λ n. is_folder n.kind) (node x t)) false

unfoldable pub add_fault : List PlacedItem → List ℕ → List ℕ → Option EditFault
add_fault t parent x =
    if lacks_item t parent then Some NoItem
    else (if not (takes_items t parent) then Some NotFolder
    else (if has x (node_ids t) then Some Twice else None))

-- of a renaming and a deletion
unfoldable pub change_fault : List PlacedItem → List ℕ → Option EditFault
change_fault t x = if lacks_item t x then Some NoItem else (if is_fixed x then Some Root else None)

unfoldable pub move_fault : List PlacedItem → List ℕ → List ℕ → Option EditFault
move_fault t x parent =
    if lacks_item t x || lacks_item t parent then Some NoItem
    else (if is_fixed x then Some Root
    else (if not (takes_items t parent) then Some NotFolder
    else (if is_within t x parent then Some Under else None)))
