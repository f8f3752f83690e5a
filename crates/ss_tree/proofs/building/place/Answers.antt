use Rattle.ss_tree.proofs.Placed.{ready_left}
use Rattle.ss_tree.specs.Cells.{SameLinks}
use Rattle.ss_tree.proofs.building.place.Goals as goal

pub attach-requires-clause-left : goal.attach-requires-clause-left
attach-requires-clause-left c =
    let same : SameLinks c.args.cells.now.items c.fill.new.cells = rw c.as_mut_slice-slice.ensures.value at c.fill.ensures.links in
    rw c.number.ensures (ready_left c.args.cells.now.items c.fill.new.cells c.args.entry c.in-Some.parent c.requires.ready c.in-Some.is same)
