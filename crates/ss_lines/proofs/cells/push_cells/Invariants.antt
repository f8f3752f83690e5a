use Rattle.std.proofs.Common.{◌≡◌, ◌++◌, take}
use Rattle.ss_lines.specs.Cells.{cells_text}
use Rattle.ss_lines.proofs.cells.push_cells.Given as goal

abbrev pub invariant-loop-cell : goal.invariant-loop-cell
invariant-loop-cell l = l.out.items ≡ l.initial.out.items ++ cells_text (take l.cell-index l.cells)
