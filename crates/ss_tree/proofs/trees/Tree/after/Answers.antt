use Rattle.std.proofs.Common.{◌≡◌, ◌-◌, ◌+◌, suc, Some, None, sym, ap, ◌∙◌, arith}
use Rattle.ss_tree.specs.Entries.{above}
use Rattle.ss_tree.specs.Walks.{after, sibling}
use Rattle.ss_tree.proofs.Walked.{after_up}
use Rattle.ss_tree.proofs.trees.Tree.after.Goals as goal

pub loop-round-preserved : goal.loop-round-preserved
loop-round-preserved c =
    let es = c.args.self.now in
    let at = c.loop-round.at in
    let left : suc (c.args.rounds - (c.loop-round._round + 1)) ≡ c.args.rounds - c.loop-round._round = omega (arith, c.loop-round-test.true) in
    let none : sibling es at ≡ None = sym c.next.ensures.node ∙ c.in_default.is in
    let up : above es at ≡ Some c.in-Some-parent.parent = sym c.parent.ensures.node ∙ c.in-Some-parent.is in
    sym (after_up es (c.args.rounds - (c.loop-round._round + 1)) at c.in-Some-parent.parent none up) ∙ (ap (λ n. after es n at) left ∙ c.loop-round.invariant)
