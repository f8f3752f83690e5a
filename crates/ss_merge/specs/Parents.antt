-- The parents of a merged tree. n bounds each walk; with the number of all ids the bound means nothing (`rooted_is_exact`).
use Rattle.std.specs.Prelude.{ℕ, Bool, Option, if◌then◌else◌}
use Rattle.ss_dupe.specs.declared.sides.Side.{Side}
use Rattle.ss_dupe.specs.declared.sides.Side.TheVariants.{Local, Remote}
use Rattle.ss_dupe.specs.Looks.{Id, is_in, is_root, parent_of}
use Rattle.ss_dupe.specs.Walks.{meets}
use Rattle.ss_dupe.specs.Sides.{Sides, tree_of}
use Rattle.ss_merge.specs.Nearest.{nearest}
use Rattle.ss_merge.specs.Survivors.{is_merged_folder, same_parent, side_of}

-- the nearest ancestor on a side that is a merged folder
unfoldable pub nearest_folder : Sides → ℕ → Side → Id → Option Id
nearest_folder s n side x = nearest (parent_of (tree_of s side)) (is_merged_folder s) n x

-- on the side whose parent is taken
unfoldable pub chosen : Sides → ℕ → Id → Option Id
chosen s n x = nearest_folder s n (side_of s same_parent x) x

-- the walk of chosen parents comes to a root
unfoldable pub is_rooted : Sides → ℕ → Id → Bool
is_rooted s n x = meets (chosen s n) is_root n x

-- where the walk of chosen parents comes to no root
unfoldable pub fallback : Sides → ℕ → Id → Option Id
fallback s n x = nearest_folder s n (if is_in s.remote x then Remote else Local) x

-- the chosen parent; of an item whose walk of chosen parents comes to no root the nearest ancestor that is a merged
-- folder in the remote tree, or in the local tree where the item isn't in the remote one
unfoldable pub final : Sides → ℕ → Id → Option Id
final s n x = if is_rooted s n x then chosen s n x else fallback s n x
