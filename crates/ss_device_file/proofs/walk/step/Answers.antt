use Rattle.std.proofs.Common.{◌∙◌, ap, bytes_eq, sym}
use Rattle.ss_device_file.proofs.Stacked.{comes_if}
use Rattle.ss_device_file.proofs.walk.step.Goals as goal
use Rattle.ss_text.proofs.Basics.{of_not}

pub returns-then-not-branch-clause-right : goal.returns-then-not-branch-clause-right
returns-then-not-branch-clause-right c =
    sym c.if-not-branch.true ∙ comes_if c.args.waiting.now.items _ c.in-Some.next c.args.line.now c.args.met.now.keys c.in_ok-copy.field-0 c.in_ok-insert.field-0 c.in-Some.ensures.items
    (ap (bytes_eq c.in-Some.next.id) (sym c.id.ensures.id) ∙ of_not _ _ c.ne.ensures c.if-ne.false) (of_not _ _ c.ne-else-ne.ensures c.if-ne-2.false) (c.in_ok-copy.ensures ∙ c.id-2.ensures.id) c.in_ok-insert.ensures.added

pub returns-clause-right : goal.returns-clause-right
returns-clause-right c =
    sym c.if-not-branch.false ∙ comes_if c.args.waiting.now.items _ c.in-Some.next c.args.line.now c.args.met.now.keys c.in_ok-copy.field-0 c.in_ok-insert.field-0 c.in-Some.ensures.items
    (ap (bytes_eq c.in-Some.next.id) (sym c.id.ensures.id) ∙ of_not _ _ c.ne.ensures c.if-ne.false) (of_not _ _ c.ne-else-ne.ensures c.if-ne-2.false) (c.in_ok-copy.ensures ∙ c.id-2.ensures.id) c.in_ok-insert.ensures.added
