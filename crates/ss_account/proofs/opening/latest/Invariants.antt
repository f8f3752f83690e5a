use Rattle.std.proofs.Common.{◌≡◌, take}
use Rattle.ss_bso.specs.Changes.{latest}
use Rattle.ss_account.proofs.opening.latest.Given as goal

abbrev pub invariant-loop-staged : goal.invariant-loop-staged
invariant-loop-staged l = l.moment ≡ latest l.fn.time (take l.staged-index l.batches)
