use Rattle.std.proofs.Common.{take, length, bytes_eq}
use Rattle.std.specs.HashMap.{get}
use Rattle.ss_dupe.specs.Plains.{view}
use Rattle.ss_merge.specs.Parents.{final}
use Rattle.ss_merge.specs.Links.{Holds}
use Rattle.ss_merge.proofs.parents.finals_of.Given as goal

abbrev pub invariant-loop-id : goal.invariant-loop-id
invariant-loop-id l = Holds (get bytes_eq l.found) (final (view l.plains) (length l.ids)) (take l.id-index l.ids)
