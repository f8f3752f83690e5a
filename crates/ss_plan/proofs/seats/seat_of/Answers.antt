use Rattle.ss_plan.proofs.Putting.{seat_is}
use Rattle.ss_plan.proofs.seats.seat_of.Goals as goal

pub returns : goal.returns
returns c =
    seat_is c.args.tree.now c.requires.kept c.args.node (record { item = c.item-item.result; parent = c.in_ok-parent_of.field-0; children = c.in_ok-children_of.field-0; time = c.time.result })
    c.item-item.ensures c.time.ensures c.in_ok-parent_of.ensures c.in_ok-children_of.ensures
