use Rattle.std.proofs.Common.{◌≡◌, ◌<◌, ◌≤◌, ◌∙◌, ap, arith, length, option_map, take_all, subst, sym, inl, inr, Bor}
use Rattle.std.proofs.Common.{bytes_eq, is_some}
use Rattle.std.specs.HashMap.{get}
use Rattle.ss_list.specs.Chain.{times}
use Rattle.ss_record.specs.declared.readings.Reading.{Reading}
use Rattle.ss_tree.specs.Entries.{entry, tree}
use Rattle.ss_tree.specs.Trees.{node}
use Rattle.ss_tree.proofs.EachMet.{each_met}
use Rattle.ss_tree.proofs.Valid.{In}
use Rattle.ss_plan.specs.Plan.{puts, record_for}
use Rattle.ss_plan.proofs.Putting.{due_is, puts_step, seat_place}
use Rattle.ss_plan.proofs.records.records.Goals as goal
use Rattle.ss_tree.proofs.Looked.{in_more}

pub loop-node-init : goal.loop-node-init
unfolding puts In
loop-node-init c = record { parts = c.new-parts.ensures.items; fit = λ k e i q. absurd i }

pub record_due-requires : goal.record_due-requires
record_due-requires c = (seat_place c.args.tree.now c.in_ok-nodes.ensures.kept c.node-item.result c.in_ok-seat.seat c.in_ok-seat.ensures).parent

pub loop-node-preserved : goal.loop-node-preserved
loop-node-preserved c =
    let es = c.args.tree.now in
    let nodes = c.deref-node-items.result.now in
    let lt : c.loop-node.node-index < length c.deref-node-items.result.now = omega arith in
    let s = seat_place es c.in_ok-nodes.ensures.kept c.node-item.result c.in_ok-seat.seat c.in_ok-seat.ensures in
    let read : option_map (λ (r : Bor Reading). r.now) c.copied.result ≡ option_map (λ (r : Bor Reading). r.now) (get bytes_eq c.in_ok-known.known c.id-id.result.now) = ap (option_map (λ (r : Bor Reading). r.now)) (c.copied.ensures ∙ c.get.ensures.value) in
    record {
      parts = puts_step (record_for (tree es) c.args.readings.now) es nodes c.loop-node.node-index c.node-item.result c.id-id.result.now c.in_ok-due.due _ _ lt c.node-item.is (s.id ∙ sym c.id-id.ensures.id)
          (due_is (tree es) c.args.readings.now c.id-id.result.now _ _ _ (ap (λ x. node x (tree es)) c.id-id.ensures.id ∙ s.there) (read ∙ c.in_ok-known.ensures c.id-id.result.now) c.in_ok-due.ensures) c.loop-node.invariant.parts c.in_ok-put.ensures;
      fit = λ k e i q. elim (in_more nodes c.loop-node.node-index c.node-item.result k lt c.node-item.is i) [ inl a ↦ c.loop-node.invariant.fit k e a q | inr b ↦ s.fit c.id-id.ensures.fit e (ap (λ j. entry j es) (sym b) ∙ q) ];
    }

pub returns-clause-fit : goal.returns-clause-fit
returns-clause-fit c = λ k e q.
    let nodes = c.deref-node-items.result.now in
    let le : length c.deref-node-items.result.now ≤ c.loop-node.node-index = omega arith in
    c.loop-node.invariant.fit k e (subst (In k) (sym (take_all c.loop-node.node-index nodes le)) (each_met c.args.tree.now nodes (λ j. ap (times j) c.deref-node-items.ensures.value ∙ c.in_ok-nodes.ensures.once j) k (ap is_some q))) q
