-- The merged tree, and what is told beside it. ids are all ids of the local and of the remote tree, by id.
use Rattle.std.specs.Prelude.{ℕ, Bool, not, ◌||◌, ◌&&◌, List, ◌∷◌, ◌++◌, Option, Some, None, if◌then◌else◌, length, map}
use Rattle.std.specs.Prelude.{filter, bytes_eq}
use Rattle.ss_record.specs.Ids.{by_id, firsts, has, places}
use Rattle.ss_tree.specs.declared.entries.Entry.{Entry}
use Rattle.ss_tree.specs.declared.sides.Sides.{Sides as Asked}
use Rattle.ss_tree.specs.Trees.{PlacedItem, node_ids, places_node}
use Rattle.ss_tree.specs.Entries.{preorder, tree}
use Rattle.ss_dupe.specs.declared.sides.Side.{Side}
use Rattle.ss_dupe.specs.declared.sides.Side.TheVariants.{Local, Remote}
use Rattle.ss_dupe.specs.Looks.{Id, is_in, children_of, is_places, is_root}
use Rattle.ss_dupe.specs.Walks.{passes}
use Rattle.ss_dupe.specs.Sides.{Sides, other, tree_of}
use Rattle.ss_dupe.specs.Reading.{ids_at}
use Rattle.ss_dupe.specs.Renaming.{renamed_id, renamed_sides, tree_renamed}
use Rattle.ss_merge.specs.declared.merging.Origin.{Origin}
use Rattle.ss_merge.specs.declared.merging.Origin.TheVariants.{Local as FromLocal, Remote as FromRemote, Same}
use Rattle.ss_merge.specs.Survivors.{content_of, same_children, same_content, side_of, survives, taken}
use Rattle.ss_merge.specs.Parents.{final}

-- ---- children

-- x is a survivor whose final parent is p
unfoldable pub is_child : Sides → ℕ → Id → Id → Bool
is_child s n p x = (survives s x && not (is_root x)) && passes (bytes_eq p) (final s n x)

-- the children of p on the side whose list is taken, then those on the other side
unfoldable pub merged_children : Sides → Id → List Id
merged_children s p =
    let side = side_of s same_children p in
    children_of (tree_of s side) p ++ children_of (tree_of s (other side)) p

-- those that are listed, in the order of first appearance, then the rest by id
unfoldable pub children : Sides → List Id → Id → List Id
children s ids p =
    let front = firsts (filter (is_child s (length ids) p) (merged_children s p)) in
    front ++ by_id (filter (λ x. is_child s (length ids) p x && not (has x front)) ids)

-- ---- the tree

-- a survivor in its place, with the taken kind and content; all times are 0
unfoldable pub merged_node : Sides → List Id → Id → PlacedItem
merged_node s ids x = record {
  id = x;
  kind = (content_of s x).kind;
  content = (content_of s x).content;
  parent = if is_root x then Some places else final s (length ids) x;
  children = children s ids x;
  time = 0;
}

-- `places`, and the survivors under it
unfoldable pub entries_merged : Sides → List Id → List PlacedItem
entries_merged s ids = places_node ∷ map (merged_node s ids) (filter (survives s) ids)

-- ---- what is told beside the tree

-- the remote items that don't survive
unfoldable pub gone_of : Sides → List Id → List Id
gone_of s ids = filter (λ x. is_in s.remote x && not (is_places x || survives s x)) ids

abbrev pub origin_of : Option Side → Origin
origin_of None = Same
origin_of (Some Local) = FromLocal
origin_of (Some Remote) = FromRemote

-- the ids of a tree but `places`, in preorder
unfoldable pub walk_ids : List Entry → List Id
walk_ids es = filter (λ x. not (is_places x)) (ids_at es (preorder es (length es) 0))

-- of each item but `places` of the tree, in preorder, the side of its content; the same where it differs on neither side
unfoldable pub origins : Sides → List Entry → List (Id × Origin)
origins s es = map (λ x. (x, origin_of (taken s same_content x))) (walk_ids es)

-- ---- of what is asked, with duplicate pairs

-- all ids of the two trees, by id
unfoldable pub all_ids : List (Id × Id) → Asked → List Id
all_ids pairs s = by_id (firsts (node_ids (tree_renamed (renamed_id pairs) (tree s.local.now)) ++ node_ids (tree s.remote.now)))

abbrev pub merged_tree : List (Id × Id) → Asked → List PlacedItem
merged_tree pairs s = entries_merged (renamed_sides pairs s) (all_ids pairs s)
