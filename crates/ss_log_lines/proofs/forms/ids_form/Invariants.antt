use Rattle.std.proofs.Common.{take}
use Rattle.std.specs.List.{AllByRecursion}
use Rattle.ss_log_lines.specs.Requests.{IsId}
use Rattle.ss_log_lines.proofs.forms.ids_form.Given as goal

abbrev pub invariant-loop-id : goal.invariant-loop-id
invariant-loop-id l = AllByRecursion IsId (take l.id-index l.ids)
