use Rattle.std.proofs.Common.{◌≡◌, ◌<◌, ℕ, List, true, bytes_eq}
use Rattle.std.specs.HashMap.{get}
use Rattle.ss_tree.specs.Entries.{IsTree, is_live, node_of}
use Rattle.ss_tree.proofs.Copied.{low}
use Rattle.ss_tree.proofs.trees.Tree.copy_index.Given as goal

abbrev pub invariant-loop-place : goal.invariant-loop-place
invariant-loop-place l = record {
  valid : IsTree l.self;
  below : (k : ℕ) → is_live k l.self ≡ true → k < l.place-end;
  ids : (x : List ℕ) → get bytes_eq l.index x ≡ low l.place (node_of x l.self);
}
