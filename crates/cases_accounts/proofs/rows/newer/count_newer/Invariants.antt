use Rattle.std.proofs.Common.{◌≡◌, take, count_by}
use Rattle.std.specs.Prelude.{Some}
use Rattle.ss_index.specs.Walk.{is_above}
use Rattle.cases_accounts.proofs.rows.newer.count_newer.Given as goal

abbrev pub invariant-loop-row : goal.invariant-loop-row
invariant-loop-row l = l.count ≡ count_by (is_above (Some l.newer)) (take l.row-index l.rows)
