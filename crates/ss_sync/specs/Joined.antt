-- What a merge makes of a device's tree and of fetched rows.
use Rattle.std.specs.Prelude.{List, [], ◌∷◌, ◌++◌}
use Rattle.ss_record.specs.declared.readings.Sheet.{Sheet}
use Rattle.ss_record.specs.Ids.{by_id, firsts}
use Rattle.ss_tree.specs.declared.entries.Entry.{Entry}
use Rattle.ss_tree.specs.Trees.{PlacedItem, IsSame, IsValidTree, node_ids}
use Rattle.ss_tree.specs.Entries.{IsTree, tree}
use Rattle.ss_build.specs.Rows.{rows_of, dead}
use Rattle.ss_build.specs.Built.{built}
use Rattle.ss_dupe.specs.Looks.{Id}
use Rattle.ss_dupe.specs.Sides.{sides}
use Rattle.ss_dupe.specs.Pairs.{ArePairs}
use Rattle.ss_dupe.specs.Renaming.{renamed_id, tree_renamed}
use Rattle.ss_merge.specs.Merged.{entries_merged}

-- the merged tree of three trees and the deleted ids of two sides, where these are the duplicate pairs
abbrev pub merged_of : List (Id × Id) → List PlacedItem → List PlacedItem → List PlacedItem → List Id → List Id → List PlacedItem
merged_of pairs mirror local remote local_dead remote_dead =
    entries_merged (sides mirror (tree_renamed (renamed_id pairs) local) remote local_dead remote_dead) (by_id (firsts (node_ids (tree_renamed (renamed_id pairs) local) ++ node_ids remote)))

-- the rows of the mirror that count: where no row was fetched, none
abbrev pub counting : List Sheet → List Sheet → List Sheet
counting mirror [] = []
counting mirror (row ∷ rows) = mirror

-- A tree is what merging makes of a device's mirror, tree and deleted ids, and of fetched rows with their tombstones. The
-- mirror and the remote tree are those that are built from rows, with the times of the rows; trees are compared by ids. Its entries are
-- a tree, so there is one walk of it.
pub record IsJoinedTree (mirror : List Sheet) (local : List Entry) (local_dead : List Id) (rows : List Sheet) (joined : List Entry) : Type 0 where
  pub before : List Entry
  pub remote : List Entry
  pub pairs : List (Id × Id)
  pub before_is : IsSame (tree before) (built (rows_of (counting mirror rows)))
  pub remote_is : IsSame (tree remote) (built (rows_of rows))
  pub are_pairs : ArePairs (sides (tree before) (tree local) (tree remote) local_dead (dead (rows_of rows))) pairs
  pub joined_is : IsSame (tree joined) (merged_of pairs (tree before) (tree local) (tree remote) local_dead (dead (rows_of rows)))
  pub valid : IsValidTree (tree joined)
  pub is_tree : IsTree joined
