use Rattle.std.proofs.Common.{take}
use Rattle.std.specs.List.{AllByRecursion}
use Rattle.ss_lines.specs.Lines.{IsPart}
use Rattle.ss_log_lines.proofs.forms.parts_form.Given as goal

abbrev pub invariant-loop-part : goal.invariant-loop-part
invariant-loop-part l = AllByRecursion IsPart (take l.part-index l.parts)
