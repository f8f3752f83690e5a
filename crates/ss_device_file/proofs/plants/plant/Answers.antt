use Rattle.ss_device_file.proofs.Planted.{grown_none, grown_on, grown_whole, may_come_at}
use Rattle.ss_device_file.proofs.plants.plant.Goals as goal

pub loop-line-init : goal.loop-line-init
loop-line-init c = grown_none c.args.items.now _ c.in_ok-tree.ensures

pub put-requires : goal.put-requires
put-requires c = may_come_at c.args.items.now c.loop-line.line-index _ c.line-item.result c.requires.whole c.requires.form c.loop-line-test.true c.line-item.is c.loop-line.invariant

pub loop-line-preserved : goal.loop-line-preserved
loop-line-preserved c = grown_on c.args.items.now c.loop-line.line-index _ _ c.line-item.result c.requires.whole c.requires.form c.loop-line-test.true c.line-item.is c.loop-line.invariant c.in_ok-put.ensures

pub returns : goal.returns
returns c = grown_whole c.args.items.now c.loop-line.line-index _ c.requires.whole c.requires.form c.loop-line-test.false c.loop-line.invariant
