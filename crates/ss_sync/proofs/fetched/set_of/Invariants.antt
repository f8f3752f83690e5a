use Rattle.std.proofs.Common.{◌≡◌, ℕ, List, take, bytes_eq}
use Rattle.indexmap.specs.IndexSet.{contains}
use Rattle.ss_record.specs.Ids.{has}
use Rattle.ss_sync.proofs.fetched.set_of.Given as goal

abbrev pub invariant-loop-id : goal.invariant-loop-id
invariant-loop-id l = (x : List ℕ) → contains bytes_eq l.set x ≡ has x (take l.id-index l.id-items)
