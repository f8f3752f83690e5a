use Rattle.ss_tree.proofs.EachMet.{each_met}
use Rattle.ss_sync.proofs.Untimed.{untimed_all, untimed_whole}
use Rattle.ss_sync.proofs.alike.is_untimed.Goals as goal

pub returns : goal.returns
returns c told =
    untimed_all c.args.tree.now c.args.other.now c.in_ok-nodes.nodes.items c.in_ok-others.others.items c.in_ok-nodes.ensures.kept c.in_ok-others.ensures.kept
    (each_met c.args.tree.now c.in_ok-nodes.nodes.items c.in_ok-nodes.ensures.once) (each_met c.args.other.now c.in_ok-others.others.items c.in_ok-others.ensures.once)
    (untimed_whole c.args.tree.now c.args.other.now c.deref-node-items.result.now c.in_ok-nodes.nodes.items c.in_ok-others.others.items c.loop-i.i c.deref-node-items.ensures.value c.loop-i-test.false c.loop-i.invariant.long c.loop-i.invariant.same)
