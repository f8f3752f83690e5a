-- One tree on all sides of a merge, and what merging makes of its sides, for private clauses and the laws.
use Rattle.std.specs.Prelude.{◌≡◌, ℕ, List, Option, map, option_map}
use Rattle.ss_tree.specs.declared.entries.Entry.{Entry}
use Rattle.ss_tree.specs.Trees.{PlacedItem, IsSame, IsValidTree, node}
use Rattle.ss_tree.specs.Entries.{IsTree, entry, id_at, placed, tree}
use Rattle.ss_build.specs.Stand.{without_time}
use Rattle.ss_dupe.specs.Looks.{Id}
use Rattle.ss_dupe.specs.Sides.{sides}
use Rattle.ss_dupe.specs.Pairs.{ArePairs}
use Rattle.ss_sync.specs.Joined.{merged_of}

-- a tree is another one, with all its times 0
abbrev pub IsUntimed : List PlacedItem → List PlacedItem → Type 0
IsUntimed t u = (x : List ℕ) → node x t ≡ option_map without_time (node x u)

-- a tree is what merging makes of these sides under their duplicate pairs
pub record IsMergeOf (before local remote : List PlacedItem) (local_dead remote_dead : List Id) (joined : List Entry) : Type 0 where
  pub pairs : List (Id × Id)
  pub are_pairs : ArePairs (sides before local remote local_dead remote_dead) pairs
  pub joined_is : IsSame (tree joined) (merged_of pairs before local remote local_dead remote_dead)
  pub valid : IsValidTree (tree joined)
  pub is_tree : IsTree joined

-- the item of a node, in its place
abbrev pub placed_at : List Entry → ℕ → Option PlacedItem
placed_at es k = option_map (placed es) (entry k es)

-- the items of nodes are those of other nodes of another tree, in the same places, with time 0
abbrev pub AreUntimedAt : List Entry → List ℕ → List Entry → List ℕ → Type 0
AreUntimedAt es ks fs js = map (placed_at es) ks ≡ map (λ j. option_map without_time (placed_at fs j)) js

-- the ids of nodes
abbrev pub ids_at : List Entry → List ℕ → List Id
ids_at es ks = map (id_at es) ks
