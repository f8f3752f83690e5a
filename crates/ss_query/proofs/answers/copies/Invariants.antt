use Rattle.std.proofs.Common.{◌≡◌, map, take}
use Rattle.ss_query.proofs.answers.copies.Given as goal

abbrev pub invariant-loop-row : goal.invariant-loop-row
invariant-loop-row l = l.copied.items ≡ map (λ row. row.now) (take l.row-index l.rows)
