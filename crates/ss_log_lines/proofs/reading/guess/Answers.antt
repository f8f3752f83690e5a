use Rattle.std.proofs.Common.{◌≡◌, ℕ, List, [], ◌∷◌, length, Some, refl, ◌∙◌}
use Rattle.std.proofs.lemmas.Result.{IfOk-weaker}
use Rattle.ss_log_lines.specs.LogLines.{IsLogLine, log_line_text}
use Rattle.ss_log_lines.specs.declared.lines.LogLine.{LogLine}
use Rattle.ss_log_lines.proofs.Fronts.{ends_line, some_text}
use Rattle.ss_log_lines.proofs.reading.guess.Goals as goal
use Rattle.ss_log_lines.proofs.reading.guess.Goals.{in_default-via-in-Some+else-last-eq10, in_default-via-in_default}

empty : (xs : List ℕ) → length xs ≡ 0 → xs ≡ []
empty [] e = refl
empty (x ∷ xs) e = cc

pub returns-in-Some : goal.returns-in-Some
returns-in-Some c =
    IfOk-weaker c.line_in.result _ (λ o. (l : LogLine) → IsLogLine l → log_line_text l ≡ c.args.line.now → o ≡ Some l)
    (λ o all l h is. all l h (ends_line l c.in-Some.text.now c.in-Some.last.now (is ∙ c.in-Some.ensures.cases.0)).0)
    c.line_in.ensures

pub returns-in_default : goal.returns-in_default
returns-in_default c = λ l h is.
    elim c.in_default.branch [
      | in_default-via-in-Some+else-last-eq10 w ↦ absurd (w.if-last-eq10.false (ends_line l w.in-Some.text.now w.in-Some.last.now (is ∙ w.in-Some.ensures.cases.0)).1)
      | in_default-via-in_default w ↦ absurd (some_text l (is ∙ empty c.args.line.now w.in_default.ensures.cases))
    ]
