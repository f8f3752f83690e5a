use Rattle.std.proofs.Common.{ℕ, List, [], ◌∷◌, ◌++◌, take, sym, subst}
use Rattle.std.specs.List.{AllByRecursion}
use Rattle.ss_text.proofs.Basics.{take_push}
use Rattle.ss_bso.specs.declared.parts.Reason.{Reason}
use Rattle.ss_log_lines.specs.Requests.{IsFailure}
use Rattle.ss_log_lines.proofs.forms.failures_form.Goals as goal

one_more : (fs : List (List ℕ × Reason)) (f : List ℕ × Reason) → AllByRecursion IsFailure fs → IsFailure f → AllByRecursion IsFailure (fs ++ f ∷ [])
one_more [] f h k = (k, tt)
one_more (g ∷ gs) f h k = (h.0, one_more gs f h.1 k)

pub loop-failure-preserved : goal.loop-failure-preserved
loop-failure-preserved c =
    subst (AllByRecursion IsFailure) (sym (take_push c.args.failures.now c.loop-failure.failure-index c.failure-item.result c.loop-failure-test.true c.failure-item.is))
    (one_more (take c.loop-failure.failure-index c.args.failures.now) c.failure-item.result c.loop-failure.invariant c.failure_form.ensures)
