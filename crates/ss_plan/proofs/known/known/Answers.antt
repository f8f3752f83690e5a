use Rattle.std.proofs.Common.{◌≡◌, ◌+◌, ◌-◌, ◌<◌, ◌∙◌, ap, arith, bytes_eq, length, option_map, refl, sym, Bor}
use Rattle.std.specs.HashMap.{get}
use Rattle.std.specs.Map.{lookup}
use Rattle.ss_record.specs.declared.readings.Reading.{Reading}
use Rattle.ss_plan.proofs.Putting.{known_more, none_known}
use Rattle.ss_plan.proofs.known.known.Goals as goal

pub loop-at-init : goal.loop-at-init
loop-at-init c = record {
  inside = omega arith;
  known = λ x. ap (λ es. option_map (λ (r : Bor Reading). r.now) (lookup (bytes_eq x) es)) c.with_hasher-known.ensures.empty ∙ sym (none_known x c.args.readings.now (length c.args.readings.now) refl);
}

pub loop-at-preserved : goal.loop-at-preserved
loop-at-preserved c =
    let next : (c.loop-at.at - 1) + 1 ≡ c.loop-at.at = omega arith in
    let lt : c.loop-at.at - 1 < length c.args.readings.now = omega arith in
    record {
      inside = omega arith;
      known = known_more (λ (r : Bor Reading). r.now) (get bytes_eq c.loop-at.known) (get bytes_eq c.insert.new.self) c.args.readings.now (c.loop-at.at - 1) c.loop-at.at c.index-readings-at.result c.in_ok-copy.field-0 _ next lt
          (c.in_ok-copy.ensures ∙ ap (λ w. w.0) c.index-readings-at.is) c.in_ok-insert.ensures.updates.0 (ap (λ w. w.1) c.index-readings-at.is) c.loop-at.invariant.known;
    }
