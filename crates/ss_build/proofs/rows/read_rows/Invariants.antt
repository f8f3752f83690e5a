use Rattle.std.proofs.Common.{◌≡◌, take}
use Rattle.ss_build.specs.Rows.{rows_of}
use Rattle.ss_build.proofs.rows.read_rows.Given as goal

abbrev pub invariant-loop-sheet : goal.invariant-loop-sheet
invariant-loop-sheet l = l.rows.items ≡ rows_of (take l.sheet-index l.sheets)
