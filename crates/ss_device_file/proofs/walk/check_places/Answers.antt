use Rattle.ss_device_file.proofs.Walked.{astray, none_walked, on_true, short, some_seats, walked_on}
use Rattle.ss_device_file.proofs.walk.check_places.Goals as goal
use Rattle.std.proofs.Common.{◌==◌, ◌∙◌, ap, length}

pub loop-line-init : goal.loop-line-init
loop-line-init c = none_walked _ _ _ c.in_ok-waiting.ensures c.in_ok-met.ensures.empty

pub loop-line-preserved : goal.loop-line-preserved
loop-line-preserved c =
    walked_on _ _ _ _ _ _ c.line-item.result c.in_ok-step.field-0 c.loop-line-test.true c.line-item.is c.in_ok-step.ensures.right c.if-not-branch.false
    (on_true _ _ c.in_ok-step.ensures.seats c.if-not-branch.false) (on_true _ _ c.in_ok-step.ensures.met c.if-not-branch.false) c.loop-line.invariant

pub returns-then-not-branch-clause-wrong : goal.returns-then-not-branch-clause-wrong
returns-then-not-branch-clause-wrong c =
    astray _ _ _ _ c.line-item.result c.in_ok-step.field-0 c.in_ok-id.id c.loop-line-test.true c.line-item.is c.in_ok-step.ensures.right c.if-not-branch.true c.loop-line.invariant (c.in_ok-id.ensures ∙ c.id.ensures.id)

pub returns-then-not-is_empty-clause-wrong : goal.returns-then-not-is_empty-clause-wrong
returns-then-not-is_empty-clause-wrong c =
    short _ _ _ _ c.in_ok-id-2.id c.loop-line-test.false c.loop-line.invariant (some_seats c.loop-line.waiting.items c.is_empty.result (c.is_empty.ensures ∙ ap (λ ws. length ws == 0) c.as_slice.ensures.value) c.if-not-is_empty.true) c.in_ok-id-2.ensures
