use Rattle.std.proofs.Common.{◌≡◌, take}
use Rattle.ss_query.specs.Told.{first_failures}
use Rattle.ss_writes.proofs.writing.first_failures.Given as goal

abbrev pub invariant-loop-failure : goal.invariant-loop-failure
invariant-loop-failure l = l.first.items ≡ first_failures (take l.failure-index l.failed)
