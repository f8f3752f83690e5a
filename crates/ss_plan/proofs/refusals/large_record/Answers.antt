use Rattle.std.proofs.Common.{◌≡◌, ◌<◌, ◌≤◌, ◌∙◌, Some, ap, ap₂, arith, length, option_map, sym}
use Rattle.ss_plan.specs.Refusals.{payload_bytes}
use Rattle.ss_plan.specs.declared.limits.PlanFault.TheVariants.{RecordTooLarge}
use Rattle.ss_plan.proofs.Putting.{first_found, none_more}
use Rattle.ss_plan.proofs.refusals.large_record.Goals as goal

pub returns-then-most-n : goal.returns-then-most-n
returns-then-most-n c =
    let parts = c.args.parts.now in
    let lt : c.loop-part.part-index < length c.args.parts.now = omega arith in
    let n : c.payload_bytes-n.result ≡ payload_bytes c.part-item.result = c.payload_bytes-n.ensures in
    let over : c.args.most < payload_bytes c.part-item.result = omega arith in
    ap₂ (λ i k. Some (RecordTooLarge i k)) c.in_ok-id.ensures n ∙ sym (ap (option_map (λ p. RecordTooLarge p.id (payload_bytes p))) (first_found payload_bytes c.args.most parts c.loop-part.part-index c.part-item.result lt c.part-item.is c.loop-part.invariant over))

pub loop-part-preserved : goal.loop-part-preserved
loop-part-preserved c =
    let lt : c.loop-part.part-index < length c.args.parts.now = omega arith in
    let n : c.payload_bytes-n.result ≡ payload_bytes c.part-item.result = c.payload_bytes-n.ensures in
    let low : payload_bytes c.part-item.result ≤ c.args.most = omega arith in
    none_more payload_bytes c.args.most c.args.parts.now c.loop-part.part-index c.part-item.result lt c.part-item.is c.loop-part.invariant low
