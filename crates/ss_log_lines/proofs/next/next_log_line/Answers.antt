use Rattle.std.proofs.Common.{sym, ◌∙◌}
use Rattle.ss_text.proofs.Basics.{none_some}
use Rattle.ss_log_lines.proofs.Fronts.{none_read, none_there}
use Rattle.ss_log_lines.proofs.next.next_log_line.Goals as goal

pub returns-in_default-clause-none : goal.returns-in_default-clause-none
returns-in_default-clause-none c = none_there c.args.text.now c.in_default.ensures

pub returns-in-None-clause-none : goal.returns-in-None-clause-none
returns-in-None-clause-none c =
    none_read c.args.text.now c.in-Some.end c.in-Some.ensures
    (λ l h is. none_some (sym c.in-None.is ∙ c.in_ok-line.ensures.all l h is))
