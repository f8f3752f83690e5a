use Rattle.std.proofs.Common.{take}
use Rattle.std.specs.List.{AllByRecursion}
use Rattle.ss_log_lines.specs.LogLines.{IsEntry}
use Rattle.ss_logs.proofs.laws.entries_form.Given as goal

abbrev pub invariant-loop-entry : goal.invariant-loop-entry
invariant-loop-entry l = AllByRecursion IsEntry (take l.entry-index l.entries)
