use Rattle.std.proofs.Common.{◌≡◌, take, map, filter}
use Rattle.ss_build.specs.Rows.{is_tombstone}
use Rattle.ss_build.proofs.rows.dead.Given as goal

abbrev pub invariant-loop-row : goal.invariant-loop-row
invariant-loop-row l = l.ids.items ≡ map (λ r. r.id) (filter (λ r. is_tombstone r.reading) (take l.row-index l.rows))
