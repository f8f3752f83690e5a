use Rattle.std.proofs.Common.{arith}
use Rattle.ss_keeper.proofs.Gathering.{begun-more}
use Rattle.ss_keeper.proofs.batch_edits.begin_batches.Goals as goal

pub loop-change-preserved : goal.loop-change-preserved
loop-change-preserved c =
    begun-more c.args.held.now.items c.loop-change.held.items c.begin_batch.new.held.items c.args.changes.now c.loop-change.change-index c.change-item.result
    (omega arith) c.change-item.is c.loop-change.invariant c.in_ok-begin_batch.ensures
