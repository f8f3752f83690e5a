use Rattle.std.proofs.Common.{◌≡◌, take}
use Rattle.ss_flat.specs.States.{IsFlatState}
use Rattle.ss_flat.proofs.flat.flat_of.Given as goal

abbrev pub invariant-loop-row : goal.invariant-loop-row
invariant-loop-row l = record { kind : l.flat.kind ≡ l.fn.kind; state : IsFlatState (take l.row-index l.rows) l.flat }
