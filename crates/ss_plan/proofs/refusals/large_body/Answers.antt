use Rattle.std.proofs.Common.{◌≡◌, ◌<◌, ◌≤◌, ◌∙◌, Some, ap, ap₂, arith, length, option_map, sym}
use Rattle.ss_plan.specs.Refusals.{body_bytes}
use Rattle.ss_plan.specs.declared.limits.PlanFault.TheVariants.{BodyTooLarge}
use Rattle.ss_plan.proofs.Putting.{first_found, none_more}
use Rattle.ss_plan.proofs.refusals.large_body.Goals as goal

pub returns-then-most-n : goal.returns-then-most-n
returns-then-most-n c =
    let parts = c.args.parts.now in
    let lt : c.loop-part.part-index < length c.args.parts.now = omega arith in
    let n : c.in_ok-n.n ≡ body_bytes c.part-item.result = c.in_ok-n.ensures in
    let over : c.args.most < body_bytes c.part-item.result = omega arith in
    ap₂ (λ i k. Some (BodyTooLarge i k)) c.in_ok-id.ensures n ∙ sym (ap (option_map (λ p. BodyTooLarge p.id (body_bytes p))) (first_found body_bytes c.args.most parts c.loop-part.part-index c.part-item.result lt c.part-item.is c.loop-part.invariant over))

pub loop-part-preserved : goal.loop-part-preserved
loop-part-preserved c =
    let lt : c.loop-part.part-index < length c.args.parts.now = omega arith in
    let n : c.in_ok-n.n ≡ body_bytes c.part-item.result = c.in_ok-n.ensures in
    let low : body_bytes c.part-item.result ≤ c.args.most = omega arith in
    none_more body_bytes c.args.most c.args.parts.now c.loop-part.part-index c.part-item.result lt c.part-item.is c.loop-part.invariant low
