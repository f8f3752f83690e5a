use Rattle.std.proofs.Common.{not, filter, take, bytes_eq}
use Rattle.ss_writes.specs.Parts.{IsSize}
use Rattle.ss_plain.proofs.sizes.size_elsewhere.Given as goal

abbrev pub invariant-loop-row : goal.invariant-loop-row
invariant-loop-row l = IsSize (filter (λ row. not (bytes_eq row.collection l.collection)) (take l.row-index l.rows)) l.size
