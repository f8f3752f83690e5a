use Rattle.std.proofs.Common.{List, ◌++◌, take}
use Rattle.ss_bso.specs.declared.rows.Row.{Row}
use Rattle.ss_writes.specs.Parts.{IsSize}
use Rattle.ss_plain.proofs.sizes.size_with.Given as goal

abbrev pub invariant-loop-row : goal.invariant-loop-row
invariant-loop-row l = (old : List Row) → IsSize old l.initial.size → IsSize (old ++ take l.row-index l.rows) l.size
