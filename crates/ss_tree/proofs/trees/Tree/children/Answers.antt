use Rattle.std.proofs.Common.{true}
use Rattle.std.specs.List.{All}
use Rattle.ss_tree.specs.Entries.{is_live, kids}
use Rattle.ss_tree.proofs.Live.{live_kids}
use Rattle.std.proofs.Common.{◌≡◌, ℕ, Option, Some, sym, subst}
use Rattle.ss_tree.specs.Entries.{IsTree}
use Rattle.ss_tree.proofs.Walked.{InRow, row_start, row_onward}
use Rattle.ss_tree.proofs.trees.Tree.children.Goals as goal

pub loop-at-init : goal.loop-at-init
loop-at-init c = record {
  valid = subst IsTree c.self.view_is c.self.invariant.0.kept.is_tree;
  stands = rw (c.first-at.ensures.node, c.new-nodes.ensures.items) (row_start c.args.self.now c.args.node);
}

pub loop-at-preserved : goal.loop-at-preserved
loop-at-preserved c =
    let es = c.args.self.now in
    let v = c.loop-at.invariant in
    let here : InRow es c.args.node (Some c.in-Some.child) c.loop-at.nodes.items = subst (λ (o : Option ℕ). InRow es c.args.node o c.loop-at.nodes.items) c.in-Some.is v.stands in
    record { valid = v.valid; stands = rw (c.next-at.ensures.node, c.in_ok-push.ensures.items) (row_onward es v.valid c.args.node c.in-Some.child c.loop-at.nodes.items here) }

pub returns-clause-live : goal.returns-clause-live
returns-clause-live c =
    let es = c.args.self.now in
    let v = c.loop-at.invariant in
    let is : c.loop-at.nodes.items ≡ kids c.args.node es = subst (λ (o : Option ℕ). InRow es c.args.node o c.loop-at.nodes.items) c.in_default.is v.stands in
    subst (λ ks. All (λ k. is_live k es ≡ true) ks) (sym is) (live_kids es c.args.node v.valid)
