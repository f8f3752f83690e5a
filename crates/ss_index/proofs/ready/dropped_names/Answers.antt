use Rattle.ss_index.proofs.Dropping.{dropped_more}
use Rattle.ss_index.proofs.ready.dropped_names.Goals as goal

pub loop-change-preserved : goal.loop-change-preserved
loop-change-preserved c =
    dropped_more c.args.changes.now c.loop-change.change-index c.change-item.result c.loop-change.names.items c.note_dropped.new.names.items c.loop-change-test.true c.change-item.is c.loop-change.invariant c.in_ok-note_dropped.ensures
