use Rattle.std.proofs.Common.{◌≡◌, ◌++◌, ◌∷◌, [], sym, ◌∙◌, subst}
use Rattle.ss_record.specs.declared.readings.Sheet.{Sheet}
use Rattle.ss_device.specs.Device.{AreById, row_ids}
use Rattle.ss_run_edit.proofs.Rows.{bad_line, cut_short}
use Rattle.ss_run_edit.proofs.remotes.next_found.Goals as goal
use Rattle.ss_run_edit.proofs.remotes.next_found.Goals.{in_default-2-via-in-Some-2+else-comes_after}
use Rattle.ss_run_edit.proofs.remotes.next_found.Goals.{in_default-2-via-in_default-2}
use Rattle.ss_text.proofs.Basics.{some_same}

pub returns-in_default-clause-stuck : goal.returns-in_default-clause-stuck
returns-in_default-clause-stuck c = cut_short c.args.rows.now c.args.rest.now c.args.line c.in_default.ensures

pub returns-in_default-2-clause-stuck : goal.returns-in_default-2-clause-stuck
returns-in_default-2-clause-stuck c =
    bad_line c.args.rows.now c.args.rest.now c.args.line c.in-Some.end c.in-Some.ensures (c.is_end.ensures.no c.if-is_end.false)
    (λ r is text by_id.
    elim c.in_default-2.branch [
      | in_default-2-via-in-Some-2+else-comes_after w ↦
          let same : w.in-Some-2.row ≡ r = some_same (sym w.in-Some-2.is ∙ c.in_ok-row.ensures.all r is text) in
          w.comes_after.ensures.no w.if-comes_after.false (subst (λ (q : Sheet). AreById (row_ids (c.args.rows.now ++ q ∷ []))) (sym same) by_id)
      | in_default-2-via-in_default-2 w ↦ w.in_default-2.not-Some r (c.in_ok-row.ensures.all r is text)
    ])
