use Rattle.std.proofs.Common.{◌≡◌, take, map, filter}
use Rattle.ss_bso.specs.Account.{is_open}
use Rattle.ss_audit.proofs.going_on.open_ones.Given as goal

abbrev pub invariant-loop-staged : goal.invariant-loop-staged
invariant-loop-staged l = map (λ batch. batch.now) l.lent.items ≡ filter (is_open l.moment) (take l.staged-index l.batches)
