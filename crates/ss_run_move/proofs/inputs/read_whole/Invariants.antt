use Rattle.std.proofs.Common.{◌≡◌, ◌-◌, ◌+◌, length}
use Rattle.ss_input.specs.Inputs.{IsPart}
use Rattle.ss_run_move.specs.Inputs.{most_bytes}
use Rattle.ss_run_move.proofs.inputs.read_whole.Given as goal

abbrev pub invariant-pieces : goal.invariant-pieces
invariant-pieces g l = record {
  part : IsPart l.text.items (g.S.Told.told l.fn.input) (g.S.Told.told l.input);
  room : length l.piece.items ≡ 65536;
}

abbrev pub decreases-pieces : goal.decreases-pieces
decreases-pieces g l = (most_bytes + 1) - length l.text.items
