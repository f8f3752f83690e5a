use Rattle.std.proofs.Common.{◌≡◌, map, take}
use Rattle.ss_bso.specs.declared.changes.RowChange.TheVariants.{Put}
use Rattle.ss_writes.proofs.pending.puts.Given as goal

abbrev pub invariant-loop-row : goal.invariant-loop-row
invariant-loop-row l = l.changes.items ≡ map Put (take l.row-index l.rows)
