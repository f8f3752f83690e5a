use Rattle.ss_index.proofs.Picks.{none_among, picked_more}
use Rattle.std.proofs.Common.{map}
use Rattle.ss_index.proofs.drawer.Drawer.named.Goals as goal

pub loop-i-init : goal.loop-i-init
loop-i-init c = rw c.new-found.ensures.items (none_among c.args.query.now c.args.self.now.rows)

pub loop-i-preserved : goal.loop-i-preserved
loop-i-preserved c =
    picked_more c.args.query.now c.args.self.now.rows c.requires c.args.ids.now c.loop-i.i c.index-ids-i.result c.loop-i-test.true c.index-ids-i.is
    (map (λ row. row.now) c.loop-i.found.items) (map (λ row. row.now) c.pick.new.found.items) c.loop-i.invariant c.in_ok-pick.ensures
