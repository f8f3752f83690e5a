use Rattle.std.proofs.Common.{take}
use Rattle.std.specs.List.{AllByRecursion, flat_map}
use Rattle.ss_lines.specs.Lines.{IsLine}
use Rattle.ss_dump.specs.Dumps.{batch_lines}
use Rattle.ss_dump.proofs.laws.batches_form.Given as goal

abbrev pub invariant-loop-staged : goal.invariant-loop-staged
invariant-loop-staged l = AllByRecursion IsLine (flat_map batch_lines (take l.staged-index l.staged-items))
