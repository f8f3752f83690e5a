use Rattle.std.proofs.Common.{◌≡◌, take, map, filter}
use Rattle.ss_bso.specs.Account.{is_alive}
use Rattle.ss_audit.proofs.going_on.alive.Given as goal

abbrev pub invariant-loop-row : goal.invariant-loop-row
invariant-loop-row l = map (λ row. row.now) l.lent.items ≡ filter (is_alive l.moment) (take l.row-index l.rows)
