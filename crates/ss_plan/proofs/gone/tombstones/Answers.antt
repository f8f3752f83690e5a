use Rattle.std.proofs.Common.{◌<◌, ◌++◌, ◌∷◌, [], ◌∙◌, Some, ap, ap₂, arith, length, refl}
use Rattle.ss_record.specs.Records.{tombstone_of}
use Rattle.ss_plan.specs.Plan.{part}
use Rattle.ss_plan.proofs.Putting.{puts_next}
use Rattle.ss_plan.proofs.gone.tombstones.Goals as goal

pub loop-id-preserved : goal.loop-id-preserved
loop-id-preserved c =
    let lt : c.loop-id.id-index < length c.deref-id-items.result.now = omega arith in
    puts_next (λ x. Some (tombstone_of x)) c.deref-id-items.result.now c.loop-id.id-index c.id-item.result (tombstone_of c.id-item.result) c.loop-id.parts.items _ lt c.id-item.is refl c.loop-id.invariant
    (c.in_ok-push.ensures.items ∙ ap (λ q. c.loop-id.parts.items ++ q ∷ []) (c.part.ensures ∙ ap₂ part c.in_ok-copy.ensures c.in_ok-write_tombstone.ensures.text))
