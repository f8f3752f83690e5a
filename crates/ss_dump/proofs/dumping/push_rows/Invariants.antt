use Rattle.std.proofs.Common.{◌≡◌, ◌++◌, map, take}
use Rattle.ss_lines.specs.declared.lines.Line.TheVariants.{Row as RowLine}
use Rattle.ss_dump.specs.Dumps.{text_of}
use Rattle.ss_dump.proofs.dumping.push_rows.Given as goal

abbrev pub invariant-loop-row : goal.invariant-loop-row
invariant-loop-row l = l.out.items ≡ l.initial.out.items ++ text_of (map (λ r. RowLine r) (map (λ row. row.now) (take l.row-index l.row-items)))
