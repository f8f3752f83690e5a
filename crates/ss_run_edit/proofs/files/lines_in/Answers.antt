use Rattle.std.proofs.Common.{inr, ◌∙◌}
use Rattle.ss_run_edit.proofs.FrontOf.{excess}
use Rattle.ss_run_edit.proofs.files.lines_in.Goals as goal

pub returns-then-used-text-clause-none : goal.returns-then-used-text-clause-none
returns-then-used-text-clause-none c =
    inr (excess c.args.text.now c.in_ok-lines.field-0 c.len.result c.in_ok-lines.ensures.front c.if-used-text.true (c.len.ensures ∙ c.in_ok-lines.field-0.lines.ok.0))
