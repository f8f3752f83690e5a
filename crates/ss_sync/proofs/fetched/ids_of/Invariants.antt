use Rattle.std.proofs.Common.{◌≡◌, ℕ, List, take, bytes_eq}
use Rattle.indexmap.specs.IndexSet.{contains}
use Rattle.ss_record.specs.Ids.{has}
use Rattle.ss_sync.specs.Rows.{ids_of}
use Rattle.ss_sync.proofs.fetched.ids_of.Given as goal

abbrev pub invariant-loop-sheet : goal.invariant-loop-sheet
invariant-loop-sheet l = (x : List ℕ) → contains bytes_eq l.set x ≡ has x (ids_of (take l.sheet-index l.sheets))
