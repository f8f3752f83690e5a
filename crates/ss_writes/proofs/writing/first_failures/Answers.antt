use Rattle.std.proofs.Common.{refl, bytes_eq}
use Rattle.std.specs.List.{list_any}
use Rattle.ss_writes.proofs.Making.{failures-step}
use Rattle.ss_writes.proofs.writing.first_failures.Goals as goal

pub loop-failure-preserved : goal.loop-failure-preserved
loop-failure-preserved c =
    failures-step c.args.failed.now c.loop-failure.failure-index c.failure-item.result c.loop-failure.first.items c.add_failure.new.first.items
    (list_any (λ other. bytes_eq other.0 c.failure-item.result.0) c.loop-failure.first.items)
    c.loop-failure-test.true c.failure-item.is c.loop-failure.invariant refl c.in_ok-add_failure.ensures
