use Rattle.ss_sync.proofs.Fetching.{set_none, set_more}
use Rattle.ss_sync.proofs.fetched.set_of.Goals as goal
use Rattle.ss_text.proofs.Basics.{take_push}

pub loop-id-init : goal.loop-id-init
loop-id-init c = set_none _ c.in_ok-set.ensures.empty

pub loop-id-preserved : goal.loop-id-preserved
loop-id-preserved c =
    set_more c.loop-id.set.keys c.insert.new.self.keys _ _ c.in_ok-copy.field-0 c.id-item.result (take_push c.as_slice-id-items.result.now c.loop-id.id-index c.id-item.result c.loop-id-test.true c.id-item.is)
    c.in_ok-copy.ensures c.in_ok-insert.ensures.keys c.loop-id.invariant
