use Rattle.std.proofs.Common.{◌≡◌, ◌++◌, map, take}
use Rattle.ss_index.proofs.drawer.copy_each.Given as goal

abbrev pub invariant-loop-row : goal.invariant-loop-row
invariant-loop-row l = l.rows.items ≡ l.initial.rows.items ++ map (λ row. row.now) (take l.row-index l.lent)
