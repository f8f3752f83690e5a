use Rattle.std.proofs.Common.{◌≡◌, Some, sym, ◌∙◌}
use Rattle.std.proofs.lemmas.Bool.{true≢false}
use Rattle.std.proofs.lemmas.Result.{IfOk-weaker}
use Rattle.serde_json.specs.Data.{array}
use Rattle.serde_json.specs.View.{view}
use Rattle.serde_json.specs.Written.{compact_text}
use Rattle.ss_log_lines.specs.LogLines.{IsLogLine, log_list_of}
use Rattle.ss_log_lines.specs.declared.lines.LogLine.{LogLine}
use Rattle.ss_log_lines.proofs.Again.{none_told, told_in}
use Rattle.ss_log_lines.proofs.reading.line_in.Goals as goal

pub returns-in-Ok : goal.returns-in-Ok
returns-in-Ok c =
    IfOk-weaker c.log_line_from.result _ (λ o. (l : LogLine) → IsLogLine l → compact_text (array (log_list_of l)) ≡ c.args.text.now → o ≡ Some l)
    (λ o e l h is. e ∙ told_in (view c.in-Ok.list) c.args.text.now c.in-Ok.ensures.ok.1 l h is)
    c.log_line_from.ensures

pub returns-else-is_memory : goal.returns-else-is_memory
returns-else-is_memory c = λ l h is.
    absurd (none_told c.args.text.now (c.in-Err.ensures.err (λ m. true≢false (sym (c.is_memory.ensures.1 m) ∙ c.if-is_memory.false))) l h is)
