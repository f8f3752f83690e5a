use Rattle.std.proofs.Common.{◌≡◌, map, take}
use Rattle.ss_bso.specs.declared.changes.RowChange.TheVariants.{Put}
use Rattle.ss_dump.proofs.refilling.put_rows.Given as goal

abbrev pub invariant-loop-row : goal.invariant-loop-row
invariant-loop-row l = l.changes.items ≡ map (λ row. Put row) (take l.row-index l.rows)
