-- The sides of a merge after the renaming.
use Rattle.std.proofs.Common.{List}
use Rattle.ss_tree.specs.Trees.{IsValidTree}
use Rattle.ss_tree.specs.Entries.{tree}
use Rattle.ss_tree.specs.declared.sides.Sides.{Sides as Asked}
use Rattle.ss_dupe.specs.Looks.{Id}
use Rattle.ss_dupe.specs.Sides.{sides_asked}
use Rattle.ss_dupe.specs.Pairs.{ArePairs}
use Rattle.ss_dupe.specs.Renaming.{renamed_id, renamed_sides, tree_renamed}
use Rattle.ss_dupe.specs.Shapes.{HaveShapes}
use Rattle.ss_dupe.proofs.Shapes.{shape}
use Rattle.ss_dupe.proofs.Renamed.{paired_is_valid}

pub paired_shaped : (pairs : List (Id × Id)) (s : Asked) → IsValidTree (tree s.local.now) → IsValidTree (tree s.remote.now) → ArePairs (sides_asked s) pairs → HaveShapes (renamed_sides pairs s)
paired_shaped pairs s vl vr a = record {
  local = shape (tree_renamed (renamed_id pairs) (tree s.local.now)) (paired_is_valid (tree s.mirror.now) (tree s.local.now) (tree s.remote.now) s.local_dead.now s.remote_dead.now pairs vl vr a);
  remote = shape (tree s.remote.now) vr;
}
