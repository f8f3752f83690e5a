use Rattle.std.proofs.Common.{◌≤◌, ◌∙◌, ap, arith, length, map, sym, take_all}
use Rattle.ss_tree.proofs.Settled.{kid_ids_are}
use Rattle.ss_tree.specs.Entries.{id_at}
use Rattle.ss_plan.proofs.seats.children_of.Goals as goal

pub returns : goal.returns
returns c =
    let le : length c.deref-child-items.result.now ≤ c.loop-child.child-index = omega arith in
    c.loop-child.invariant
    ∙ (ap (map (id_at c.args.tree.now)) (take_all c.loop-child.child-index c.deref-child-items.result.now le ∙ (c.deref-child-items.ensures.value ∙ c.in_ok-children.ensures.nodes))
    ∙ sym (kid_ids_are c.args.node c.args.tree.now c.requires.nodes))
