use Rattle.std.proofs.Common.{[], ◌∷◌, sym, ap, ◌∙◌, take_all}
use Rattle.ss_plan.specs.Written.{sheet, sheet_after}
use Rattle.ss_sync.proofs.Putting.{after_more, apart_sorted}
use Rattle.ss_sync.proofs.written.rows_after.Goals as goal
use Rattle.ss_plan.proofs.Last.{after-none}

pub loop-part-init : goal.loop-part-init
loop-part-init c = λ x. c.in_ok-rows.ensures x ∙ sym (after-none c.args.stamp x (sheet x c.args.sheets.items))

pub loop-part-preserved : goal.loop-part-preserved
loop-part-preserved c = λ x.
    c.in_ok-put.ensures x
    ∙ (ap (sheet_after c.args.stamp (c.part-item.result ∷ []) x) (c.loop-part.invariant x) ∙ after_more c.args.stamp c.args.parts.now c.loop-part.part-index c.part-item.result x (sheet x c.args.sheets.items) c.loop-part-test.true c.part-item.is)

pub returns-clause-written : goal.returns-clause-written
returns-clause-written c = record {
  apart = apart_sorted _ c.in_ok-after.ensures.by_id;
  each = λ x. c.in_ok-after.ensures.rows x ∙ (c.loop-part.invariant x ∙ ap (λ ps. sheet_after c.args.stamp ps x (sheet x c.args.sheets.items)) (take_all c.loop-part.part-index c.args.parts.now c.loop-part-test.false));
}
