use Rattle.std.proofs.Common.{◌≡◌, ℕ, length}
use Rattle.ss_tree.specs.Cells.{cell_at, blank}
use Rattle.ss_tree.proofs.building.blanks.Given as goal

abbrev pub invariant-loop-round : goal.invariant-loop-round
invariant-loop-round l = record {
  long : length l.cells.items ≡ l._round;
  all : (k : ℕ) → cell_at l.cells.items k ≡ blank;
}
