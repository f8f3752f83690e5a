use Rattle.std.proofs.Common.{take}
use Rattle.ss_bso.specs.Write.{rows_without}
use Rattle.ss_writes.specs.Parts.{IsSize}
use Rattle.ss_plain.proofs.sizes.size_without.Given as goal

abbrev pub invariant-loop-row : goal.invariant-loop-row
invariant-loop-row l = IsSize (rows_without l.collection l.ids (take l.row-index l.rows)) l.size
