use Rattle.std.proofs.Common.{◌≡◌, ◌∙◌, ap₂, subst, length, map, arith}
use Rattle.ss_build.specs.Built.{ids}
use Rattle.ss_build.specs.Places.{IsTakenSoFar, place, rest}
use Rattle.ss_build.proofs.Valid.{length-ids}
use Rattle.ss_build.proofs.Taking.{taken_length}
use Rattle.ss_build.proofs.Told.{left_is, left_inside, order_is}
use Rattle.ss_build.proofs.siblings.order_all.Goals as goal

pub not_taken-requires : goal.not_taken-requires
not_taken-requires c =
    let n : length (ids c.args.claims.now) ≡ length c.args.claims.now = length-ids c.args.claims.now in
    let t : length c.take_front.new.taken ≡ length (ids c.args.claims.now) = taken_length (ids c.args.claims.now) c.take_front.new.order.items c.take_front.new.taken c.in_ok-take_front.ensures.taken in
    omega arith

pub take_all-requires-2-clause-inside : goal.take_all-requires-2-clause-inside
take_all-requires-2-clause-inside c =
    left_inside c.args.claims.now c.deref-2.result.now c.args.places.now.keys
    (c.deref-2.ensures.value ∙ (c.in_ok-words.ensures ∙ (c.as_slice.ensures ∙ left_is c.args.claims.now c.take_front.new.order.items c.take_front.new.taken _ c.in_ok-take_front.ensures.taken c.in_ok-take_front.ensures.names c.in_ok-left.ensures)))
    c.requires.ids

pub returns : goal.returns
returns c =
    let words : c.in_ok-words.words.items ≡ rest c.args.claims.now = c.in_ok-words.ensures ∙ (c.as_slice.ensures ∙ left_is c.args.claims.now c.take_front.new.order.items c.take_front.new.taken _ c.in_ok-take_front.ensures.taken c.in_ok-take_front.ensures.names c.in_ok-left.ensures) in
    record {
      names = order_is c.args.claims.now c.args.places.now.keys c.deref-2.result.now c.take_front.new.order.items c.take_all-2.new.order.items c.requires.ids c.in_ok-take_front.ensures.names (c.deref-2.ensures.value ∙ words) c.in_ok-take_all-2.ensures.names;
      taken = subst (λ k. IsTakenSoFar k c.take_all-2.new.order.items c.take_all-2.new.taken) c.requires.ids c.in_ok-take_all-2.ensures.taken;
      as_told = c.in_ok-take_front.ensures.as_told;
      left = c.in_ok-seats.ensures ∙ ap₂ (λ k w. map (λ x. place x k) w) c.requires.ids (c.deref-3.ensures.value ∙ words);
    }
