-- The local tree after its paired items took the remote ids.
use Rattle.std.specs.Prelude.{List, bytes_eq, unwrap_or, map, option_map}
use Rattle.std.specs.Map.{lookup}
use Rattle.ss_tree.specs.Trees.{PlacedItem}
use Rattle.ss_tree.specs.Entries.{tree}
use Rattle.ss_tree.specs.declared.sides.Sides.{Sides as Asked}
use Rattle.ss_dupe.specs.Looks.{Id}
use Rattle.ss_dupe.specs.Sides.{Sides, sides}

-- the remote id of a local item that is in a pair; each other id stays
abbrev pub renamed_id : List (Id × Id) → Id → Id
renamed_id pairs x = unwrap_or (lookup (bytes_eq x) pairs) x

abbrev pub renamed_item : (Id → Id) → PlacedItem → PlacedItem
renamed_item name n = record {
  id = name n.id;
  kind = n.kind;
  content = n.content;
  parent = option_map name n.parent;
  children = map name n.children;
  time = n.time;
}

-- a tree with other ids
unfoldable pub tree_renamed : (Id → Id) → List PlacedItem → List PlacedItem
tree_renamed name t = map (renamed_item name) t

-- what a merge is asked of, after the renaming
abbrev pub renamed_sides : List (Id × Id) → Asked → Sides
renamed_sides pairs s = sides (tree s.mirror.now) (tree_renamed (renamed_id pairs) (tree s.local.now)) (tree s.remote.now) s.local_dead.now s.remote_dead.now
