use Rattle.std.proofs.Common.{take}
use Rattle.ss_text.specs.Texts.{IsReordering}
use Rattle.ss_index.specs.Shelved.{rows_in}
use Rattle.ss_index.proofs.shelf.Shelf.copy_counting.Given as goal

abbrev pub invariant-loop-i : goal.invariant-loop-i
invariant-loop-i g l = IsReordering (rows_in (take l.i l.self)) l.rows.items
