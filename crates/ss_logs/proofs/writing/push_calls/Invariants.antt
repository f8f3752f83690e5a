use Rattle.std.proofs.Common.{◌≡◌, ◌++◌, map, take}
use Rattle.ss_log_lines.specs.declared.lines.LogLine.TheVariants.{Call}
use Rattle.ss_logs.specs.Logs.{text_of}
use Rattle.ss_logs.proofs.writing.push_calls.Given as goal

abbrev pub invariant-loop-entry : goal.invariant-loop-entry
invariant-loop-entry l = l.out.items ≡ l.initial.out.items ++ text_of (map (λ entry. Call entry) (take l.entry-index l.entries))
