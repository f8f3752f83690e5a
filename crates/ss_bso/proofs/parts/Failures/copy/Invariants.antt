use Rattle.std.proofs.Common.{◌≡◌, take}
use Rattle.ss_bso.proofs.parts.Failures.copy.Given as goal

abbrev pub invariant-loop-failure : goal.invariant-loop-failure
invariant-loop-failure l = l.failures.items ≡ take l.failure-index l.failure-items
