use Rattle.std.proofs.Common.{take}
use Rattle.ss_writes.specs.Parts.{IsSize}
use Rattle.ss_writes.proofs.sizes.Size.of.Given as goal

abbrev pub invariant-loop-row : goal.invariant-loop-row
invariant-loop-row l = IsSize (take l.row-index l.rows) l.size
