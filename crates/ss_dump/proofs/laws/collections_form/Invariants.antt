use Rattle.std.proofs.Common.{map, take}
use Rattle.std.specs.List.{AllByRecursion}
use Rattle.ss_lines.specs.Lines.{IsLine}
use Rattle.ss_dump.specs.Dumps.{collection_line}
use Rattle.ss_dump.proofs.laws.collections_form.Given as goal

abbrev pub invariant-loop-entry : goal.invariant-loop-entry
invariant-loop-entry l = AllByRecursion IsLine (map collection_line (take l.entry-index l.entry-items))
