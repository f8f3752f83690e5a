use Rattle.std.proofs.Common.{map, take}
use Rattle.std.specs.List.{AllByRecursion}
use Rattle.ss_lines.specs.Lines.{IsLine}
use Rattle.ss_lines.specs.declared.lines.Line.TheVariants.{Row as RowLine}
use Rattle.ss_dump.proofs.laws.rows_form.Given as goal

abbrev pub invariant-loop-row : goal.invariant-loop-row
invariant-loop-row l = AllByRecursion IsLine (map (λ r. RowLine r) (take l.row-index l.row-items))
