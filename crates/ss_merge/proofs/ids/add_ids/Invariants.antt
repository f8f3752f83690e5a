use Rattle.std.proofs.Common.{take, bytes_eq}
use Rattle.std.specs.HashSet.{contains_by}
use Rattle.ss_merge.proofs.Gathering.{Gathering}
use Rattle.ss_merge.proofs.ids.add_ids.Given as goal

abbrev pub invariant-loop-id : goal.invariant-loop-id
invariant-loop-id l = Gathering (λ x. contains_by (bytes_eq x) l.seen) l.initial.ids.items l.ids.items (take l.id-index l.from)
