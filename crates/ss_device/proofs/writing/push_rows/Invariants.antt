use Rattle.std.proofs.Common.{◌≡◌, ◌++◌, take}
use Rattle.std.specs.List.{AllByRecursion, flat_map}
use Rattle.ss_device.specs.Forms.{IsRow}
use Rattle.ss_device.specs.Writing.{row_line}
use Rattle.ss_device.proofs.writing.push_rows.Given as goal

abbrev pub invariant-loop-row : goal.invariant-loop-row
invariant-loop-row l = record {
  lines : l.out.items ≡ l.initial.out.items ++ flat_map row_line (take l.row-index l.rows);
  formed : AllByRecursion IsRow (take l.row-index l.rows);
}
