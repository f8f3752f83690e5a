use Rattle.std.proofs.Common.{◌≡◌, ◌++◌, List, ℕ, Option, Some, None, codes, option_and_then, sym, ap, ◌∙◌, subst}
use Rattle.std.specs.Option.{IfSome}
use Rattle.ss_record.specs.declared.readings.Sheet.{Sheet}
use Rattle.ss_device_file.specs.declared.lines.Line.{Line}
use Rattle.ss_device_file.specs.declared.lines.Line.TheVariants.{Row}
use Rattle.ss_device_file.specs.Lines.{IsLine, line_text}
use Rattle.ss_device_file.specs.Files.{row_in}
use Rattle.ss_run_edit.specs.Remotes.{IsRow, remote_line}
use Rattle.ss_run_edit.proofs.RemoteLines.{not_remote, remote_of_row, row_of_remote, row_said}
use Rattle.ss_run_edit.proofs.remotes.read_remote.Goals as goal

pub returns-in_default-clause-all : goal.returns-in_default-clause-all
returns-in_default-clause-all c = λ r h is. absurd (not_remote r c.args.line.now c.in_default.ensures is)

is_remote : (line back text : List ℕ) (o : Option Line) (s : Option Sheet) → line ≡ codes "[\"remote\",\"" ++ back → text ≡ codes "[\"row\",\"" ++ back → IfSome o (λ l. IsLine l × (line_text l ≡ text)) → s ≡ option_and_then row_in o
    → IfSome s (λ r. IsRow r × (remote_line r ≡ line))
is_remote line back text o None e f h q = tt
is_remote line back text o (Some r) e f h q =
    let found : o ≡ Some (Row r) = row_said o r (sym q) in
    let line_is = subst (λ x. IfSome x (λ l. IsLine l × (line_text l ≡ text))) found h in
    (line_is.0, remote_of_row r back line (line_is.1 ∙ f) e)

pub returns-clause-is : goal.returns-clause-is
returns-clause-is c =
    is_remote c.args.line.now c.in-Some.back.now c.deref.result.now c.in_ok-read_line.field-0 c.row_of.result c.in-Some.ensures (c.deref.ensures.value ∙ c.in_ok-row.ensures) c.in_ok-read_line.ensures.is c.row_of.ensures

pub returns-clause-all : goal.returns-clause-all
returns-clause-all c = λ r h is.
    c.row_of.ensures ∙ ap (option_and_then row_in) (c.in_ok-read_line.ensures.all (Row r) h (row_of_remote r c.in-Some.back.now c.args.line.now is c.in-Some.ensures ∙ sym (c.deref.ensures.value ∙ c.in_ok-row.ensures)))
