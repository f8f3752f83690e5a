use Rattle.std.proofs.Common.{sym, ap, ◌∙◌}
use Rattle.ss_run_edit.specs.Changes.{fits}
use Rattle.ss_run_edit.specs.Runs.{changes}
use Rattle.ss_run_edit.proofs.editing.edit.Goals as goal

pub returns-clause-edits : goal.returns-clause-edits
returns-clause-edits g c =
    let is = sym c.in-Ok-Some.ensures.ok ∙ c.in-Ok-Some.field-0-is in
    changes c.in-Ok-Some.change c.time_of-now.result is (ap fits (sym is) ∙ c.in-Ok-Some.ensures.fit) c.time_of-now.ensures.time c.edit_input.ensures
