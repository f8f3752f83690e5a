use Rattle.std.proofs.Common.{◌≡◌, ℕ, List, take}
use Rattle.ss_plan.specs.Written.{sheet, sheet_after}
use Rattle.ss_sync.specs.Told.{row_at}
use Rattle.ss_sync.proofs.written.rows_after.Given as goal

abbrev pub invariant-loop-part : goal.invariant-loop-part
invariant-loop-part l = (x : List ℕ) → row_at l.rows x ≡ sheet_after l.stamp (take l.part-index l.parts) x (sheet x l.fn.sheets.items)
