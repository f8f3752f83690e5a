use Rattle.std.proofs.Common.{map, take}
use Rattle.std.specs.List.{AllByRecursion}
use Rattle.ss_lines.specs.Lines.{IsLine}
use Rattle.ss_lines.specs.declared.lines.Line.TheVariants.{Part as PartLine}
use Rattle.ss_dump.proofs.laws.staged_form.Given as goal

abbrev pub invariant-loop-part : goal.invariant-loop-part
invariant-loop-part l = AllByRecursion IsLine (map (λ p. PartLine p) (take l.part-index l.part-items))
