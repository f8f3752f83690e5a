use Rattle.std.proofs.Common.{◌≡◌, ◌++◌, ℕ, List, length, bytes_eq}
use Rattle.std.specs.HashMap.{get}
use Rattle.ss_tree.specs.Entries.{node_of}
use Rattle.ss_tree.proofs.Grown.{Built}
use Rattle.ss_tree.proofs.trees.Tree.from_placed.Given as goal

abbrev pub invariant-loop-entry : goal.invariant-loop-entry
invariant-loop-entry l = record {
  all : l.yielded ++ l.entry-iterator.rest.items ≡ l.initial.entry-iterator.rest.items;
  built : Built l.cells.items l.yielded;
  rest_long : l.entry-iterator.rest.len ≡ length l.entry-iterator.rest.items;
  long : length l.cells.items ≡ length l.yielded;
  ids : (x : List ℕ) → get bytes_eq l.index x ≡ node_of x l.yielded;
}
