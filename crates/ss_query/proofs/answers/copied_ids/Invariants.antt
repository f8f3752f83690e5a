use Rattle.std.proofs.Common.{◌≡◌, map, take}
use Rattle.ss_query.proofs.answers.copied_ids.Given as goal

abbrev pub invariant-loop-row : goal.invariant-loop-row
invariant-loop-row l = l.ids.items ≡ map (λ row. row.id) (map (λ row. row.now) (take l.row-index l.rows))
