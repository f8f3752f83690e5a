use Rattle.std.proofs.Common.{◌≡◌, Some, take}
use Rattle.ss_record.specs.Records.{tombstone_of}
use Rattle.ss_plan.specs.Plan.{puts}
use Rattle.ss_plan.proofs.gone.tombstones.Given as goal

abbrev pub invariant-loop-id : goal.invariant-loop-id
invariant-loop-id l = l.parts.items ≡ puts (λ x. Some (tombstone_of x)) (take l.id-index l.id-items)
