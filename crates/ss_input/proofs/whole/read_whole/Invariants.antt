use Rattle.std.proofs.Common.{◌≡◌, ◌-◌, ◌+◌, length}
use Rattle.ss_input.specs.Inputs.{IsPart, most}
use Rattle.ss_input.proofs.whole.read_whole.Given as goal

abbrev pub invariant-pieces : goal.invariant-pieces
invariant-pieces g l = record {
  part : IsPart l.text.items (g.S.Told.told l.fn.input) (g.S.Told.told l.input);
  room : length l.piece.items ≡ 65536;
}

abbrev pub decreases-pieces : goal.decreases-pieces
decreases-pieces g l = (most + 1) - length l.text.items
