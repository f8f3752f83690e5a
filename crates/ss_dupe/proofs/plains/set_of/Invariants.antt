use Rattle.std.proofs.Common.{◌≡◌, List, ℕ, take, bytes_eq}
use Rattle.std.specs.HashSet.{contains_by}
use Rattle.ss_record.specs.Ids.{has}
use Rattle.ss_dupe.proofs.plains.set_of.Given as goal

abbrev pub invariant-loop-id : goal.invariant-loop-id
invariant-loop-id l = (x : List ℕ) → contains_by (bytes_eq x) l.set ≡ has x (take l.id-index l.id-items)
