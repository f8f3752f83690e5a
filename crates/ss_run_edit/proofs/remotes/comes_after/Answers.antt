use Rattle.std.proofs.Common.{sym, ◌∙◌}
use Rattle.ss_run_edit.proofs.LastIds.{row_first, row_more, row_no_more}
use Rattle.ss_run_edit.proofs.remotes.comes_after.Goals as goal

pub returns-in-None-clause-yes : goal.returns-in-None-clause-yes
returns-in-None-clause-yes c = λ _. row_first c.args.rows.now c.args.row.now (sym c.in-None.ensures.value)

pub returns-in-Some-clause-yes : goal.returns-in-Some-clause-yes
returns-in-Some-clause-yes c = λ h. row_more c.args.rows.now c.in-Some.last.now c.args.row.now c.requires (sym c.in-Some.ensures.value) (sym c.lt.ensures ∙ h)

pub returns-in-Some-clause-no : goal.returns-in-Some-clause-no
returns-in-Some-clause-no c = λ h. row_no_more c.args.rows.now c.in-Some.last.now c.args.row.now (sym c.in-Some.ensures.value) (sym c.lt.ensures ∙ h)
