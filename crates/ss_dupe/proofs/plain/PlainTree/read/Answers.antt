use Rattle.std.proofs.Common.{◌<◌, ◌≤◌, ◌∙◌, ap, length, arith}
use Rattle.ss_list.specs.Chain.{times}
use Rattle.ss_dupe.proofs.ReadOut.{none_yet, one_more_at, read_out}
use Rattle.ss_dupe.proofs.plain.PlainTree.read.Goals as goal

pub loop-node-init : goal.loop-node-init
loop-node-init c = none_yet c.args.source.now c.empty-plain.result c.empty-plain.ensures.none c.empty-plain.ensures.ids

pub loop-node-preserved : goal.loop-node-preserved
loop-node-preserved c =
    let lt : c.loop-node.node-index < length c.deref-node-items.result.now = omega arith in
    one_more_at c.args.source.now c.in_ok-nodes.ensures.kept c.deref-node-items.result.now c.loop-node.node-index c.node-item.result c.loop-node.plain c.put.new.self c.in_ok-seat_of.field-0
    lt c.node-item.is c.loop-node.invariant c.in_ok-seat_of.ensures c.in_ok-put.ensures.look c.in_ok-put.ensures.ids

pub returns-clause-same : goal.returns-clause-same
returns-clause-same c =
    let nodes = c.deref-node-items.result.now in
    let le : length c.deref-node-items.result.now ≤ c.loop-node.node-index = omega arith in
    read_out c.args.source.now c.in_ok-nodes.ensures.kept nodes (λ k. ap (times k) c.deref-node-items.ensures.value ∙ c.in_ok-nodes.ensures.once k) c.loop-node.plain c.loop-node.node-index le c.loop-node.invariant

pub returns-clause-ids : goal.returns-clause-ids
returns-clause-ids c = c.loop-node.invariant.ids
