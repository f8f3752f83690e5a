use Rattle.std.proofs.Common.{◌<◌, ◌≤◌, ◌∙◌, ap, append-nil, arith, is_some, length, subst, sym, take_all, inl, inr}
use Rattle.ss_list.specs.Chain.{times}
use Rattle.ss_tree.specs.Entries.{entry}
use Rattle.ss_tree.proofs.EachMet.{each_met}
use Rattle.ss_tree.proofs.Valid.{In}
use Rattle.ss_device.proofs.Formed.{line_next}
use Rattle.ss_device.proofs.writing.push_nodes.Goals as goal
use Rattle.ss_tree.proofs.Looked.{in_more}

pub loop-node-init : goal.loop-node-init
unfolding In
loop-node-init c = record { lines = sym (append-nil c.args.out.now.items); formed = λ k e i ne q. absurd i }

pub loop-node-preserved : goal.loop-node-preserved
loop-node-preserved c =
    let es = c.args.tree.now in
    let nodes = c.deref-node-items.result.now in
    let lt : c.loop-node.node-index < length c.deref-node-items.result.now = omega arith in
    record {
      lines = line_next es nodes c.loop-node.node-index c.node-item.result _ _ _ lt c.node-item.is c.loop-node.invariant.lines c.in_ok-push_node.ensures.line;
      formed = λ k e i ne q. elim (in_more nodes c.loop-node.node-index c.node-item.result k lt c.node-item.is i) [
        | inl a ↦ c.loop-node.invariant.formed k e a ne q
        | inr b ↦ c.in_ok-push_node.ensures.formed e (λ z. ne (b ∙ z)) (ap (λ j. entry j es) (sym b) ∙ q)
      ];
    }

pub returns-clause-formed : goal.returns-clause-formed
returns-clause-formed c = λ k e ne q.
    let nodes = c.deref-node-items.result.now in
    let le : length c.deref-node-items.result.now ≤ c.loop-node.node-index = omega arith in
    c.loop-node.invariant.formed k e (subst (In k) (sym (take_all c.loop-node.node-index nodes le)) (each_met c.args.tree.now nodes (λ j. ap (times j) c.deref-node-items.ensures.value ∙ c.in_ok-nodes.ensures.once j) k (ap is_some q))) ne q
