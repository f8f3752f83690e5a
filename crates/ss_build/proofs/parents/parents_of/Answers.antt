use Rattle.std.proofs.Common.{◌≡◌, length, ◌∙◌, subst, arith}
use Rattle.ss_build.specs.Marks.{AreCircles}
use Rattle.ss_build.proofs.Uppers.{next_bounded, next_length, parent_more, parents_all}
use Rattle.ss_build.proofs.parents.parents_of.Goals as goal

pub find_circles-requires : goal.find_circles-requires
find_circles-requires c = record { bounded = next_bounded c.args.claims.now c.deref.result.now (c.deref.ensures.value ∙ c.in_ok-next.ensures) }

pub loop-i-preserved : goal.loop-i-preserved
loop-i-preserved c =
    c.in_ok-push.ensures.items
    ∙ parent_more c.args.claims.now c.in_ok-next.next.items c.loop-i.parents.items c.in_ok-circles.circles.items c.args.fallback c.loop-i.i c.parent_at-parent.result c.index-in-loop-i.result.now c.index.result.now c.requires.items (omega arith)
    c.in_ok-next.ensures (subst (λ w. AreCircles w c.in_ok-circles.circles.items) c.deref.ensures.value c.in_ok-circles.ensures) c.requires.fallback c.index.ensures c.index-in-loop-i.ensures c.loop-i.invariant c.parent_at-parent.ensures

pub returns : goal.returns
returns c =
    let n : length c.in_ok-next.next.items ≡ length c.args.claims.now = next_length c.args.claims.now c.in_ok-next.next.items c.in_ok-next.ensures in
    parents_all c.args.claims.now c.loop-i.parents.items c.loop-i.i (omega arith) c.loop-i.invariant
