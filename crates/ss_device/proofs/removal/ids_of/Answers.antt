use Rattle.std.proofs.Common.{◌<◌, ◌≤◌, length, map, take_all, arith, sym, ap, ◌∙◌}
use Rattle.ss_record.specs.Ids.{has}
use Rattle.ss_device.proofs.ByIds.{name_at}
use Rattle.ss_device.proofs.Going.{in_among}
use Rattle.ss_device.proofs.Gone.{get_in, name_of_item, names_more, went}
use Rattle.ss_device.proofs.Refused.{at_there}
use Rattle.ss_device.proofs.removal.ids_of.Goals as goal

pub item-requires : goal.item-requires
item-requires c =
    let lt : c.loop-node.node-index < length c.args.nodes.now = omega arith in
    c.requires.can.live c.node-item.result (in_among c.node-item.result c.args.nodes.now (get_in c.args.nodes.now c.loop-node.node-index c.node-item.result lt c.node-item.is))

pub loop-node-preserved : goal.loop-node-preserved
loop-node-preserved c =
    let lt : c.loop-node.node-index < length c.args.nodes.now = omega arith in
    names_more c.args.tree.now c.args.nodes.now c.loop-node.node-index c.node-item.result c.in_ok-copy.field-0 c.loop-node.ids.items _ lt c.node-item.is
    (name_of_item c.args.tree.now c.node-item.result c.item.result.now c.item.ensures ∙ (sym c.id.ensures.id ∙ sym c.in_ok-copy.ensures)) c.loop-node.invariant c.in_ok-push.ensures.items

pub returns : goal.returns
returns c = λ y.
    let le : length c.args.nodes.now ≤ c.loop-node.node-index = omega arith in
    let at = at_there c.args.tree.now c.args.id.now c.requires.there in
    ap (has y) (c.loop-node.invariant ∙ ap (map (name_at c.args.tree.now)) (take_all c.loop-node.node-index c.args.nodes.now le))
    ∙ went c.args.tree.now c.requires.can.kept c.args.id.now at.0 at.1 c.requires.loose c.args.nodes.now c.requires.can y
