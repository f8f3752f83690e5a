use Rattle.std.proofs.Common.{◌≡◌, Some, sym, ◌∙◌}
use Rattle.std.proofs.lemmas.Bool.{true≢false}
use Rattle.std.proofs.lemmas.Result.{IfOk-weaker}
use Rattle.serde_json.specs.Data.{array}
use Rattle.serde_json.specs.View.{view}
use Rattle.serde_json.specs.Written.{compact_text}
use Rattle.ss_commits.specs.Commits.{IsMark, mark_list}
use Rattle.ss_commits.specs.declared.marks.Mark.{Mark}
use Rattle.ss_commits.proofs.Written.{none_told, told_in}
use Rattle.ss_commits.proofs.notes.mark_in.Goals as goal

pub returns-in-Ok : goal.returns-in-Ok
returns-in-Ok c =
    IfOk-weaker c.mark_from.result _ (λ o. (m : Mark) → IsMark m → compact_text (array (mark_list m)) ≡ c.args.text.now → o ≡ Some m)
    (λ o e m h is. e ∙ told_in (view c.in-Ok.list) c.args.text.now c.in-Ok.ensures.ok.1 m h is)
    c.mark_from.ensures

pub returns-else-is_memory : goal.returns-else-is_memory
returns-else-is_memory c = λ m h is.
    absurd (none_told c.args.text.now (c.in-Err.ensures.err (λ e. true≢false (sym (c.is_memory.ensures.1 e) ∙ c.if-is_memory.false))) m h is)
