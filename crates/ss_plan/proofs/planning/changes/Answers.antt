use Rattle.std.proofs.Common.{◌++◌, ◌∙◌, ap₂, subst}
use Rattle.ss_plan.specs.Plan.{plan}
use Rattle.ss_plan.specs.Written.{AreRowsAfter}
use Rattle.ss_plan.proofs.After.{rows_after}
use Rattle.ss_plan.proofs.planning.changes.Goals as goal

pub returns-clause-parts : goal.returns-clause-parts
unfolding plan
returns-clause-parts c = c.into_vec.ensures ∙ (c.in_ok-append.ensures ∙ ap₂ (λ a b. a ++ b) (c.new-parts.ensures ∙ c.in_ok-upserts.ensures.parts) c.in_ok-removals.ensures)

pub returns-clause-stand : goal.returns-clause-stand
returns-clause-stand c = λ sheets after stamp told w.
    rows_after c.args.tree.now c.in_ok-upserts.ensures.kept c.in_ok-upserts.ensures.fit c.args.readings.now sheets after stamp told (subst (λ parts. AreRowsAfter sheets parts stamp after) (returns-clause-parts c) w)
