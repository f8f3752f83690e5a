use Rattle.std.proofs.Common.{vec_len}
use Rattle.ss_sync.specs.Told.{row_at}
use Rattle.ss_sync.proofs.Putting.{Gathers}
use Rattle.ss_sync.proofs.written.gathered.Given as goal

abbrev pub invariant-loop-sheet : goal.invariant-loop-sheet
invariant-loop-sheet l = Gathers l.fn.sheets.items l.sheets.items (row_at l.rows)

abbrev pub decreases-loop-sheet : goal.decreases-loop-sheet
decreases-loop-sheet l = vec_len l.sheets
