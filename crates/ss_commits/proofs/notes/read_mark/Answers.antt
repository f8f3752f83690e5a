use Rattle.std.proofs.Common.{◌≡◌, ℕ, List, [], ◌∷◌, length, Some, refl, ◌∙◌}
use Rattle.std.proofs.lemmas.Result.{IfOk-weaker}
use Rattle.ss_commits.specs.Commits.{IsMark, mark_text}
use Rattle.ss_commits.specs.declared.marks.Mark.{Mark}
use Rattle.ss_commits.proofs.Written.{ends_mark, some_text}
use Rattle.ss_commits.proofs.notes.read_mark.Goals as goal
use Rattle.ss_commits.proofs.notes.read_mark.Goals.{in_default-via-in-Some+else-last-eq10, in_default-via-in_default}

empty : (xs : List ℕ) → length xs ≡ 0 → xs ≡ []
empty [] e = refl
empty (x ∷ xs) e = cc

pub returns-in-Some : goal.returns-in-Some
returns-in-Some c =
    IfOk-weaker c.mark_in.result _ (λ o. (m : Mark) → IsMark m → mark_text m ≡ c.args.line.now → o ≡ Some m)
    (λ o all m h is. all m h (ends_mark m c.in-Some.text.now c.in-Some.last.now (is ∙ c.in-Some.ensures.cases.0)).0)
    c.mark_in.ensures

pub returns-in_default : goal.returns-in_default
returns-in_default c = λ m h is.
    elim c.in_default.branch [
      | in_default-via-in-Some+else-last-eq10 w ↦ absurd (w.if-last-eq10.false (ends_mark m w.in-Some.text.now w.in-Some.last.now (is ∙ w.in-Some.ensures.cases.0)).1)
      | in_default-via-in_default w ↦ absurd (some_text m (is ∙ empty c.args.line.now w.in_default.ensures.cases))
    ]
