use Rattle.std.proofs.Common.{◌≡◌, ◌∙◌, ◌<◌, sym, subst, length, get_or, replicate, false, arith, rules}
use Rattle.std.proofs.lemmas.List.{take_at}
use Rattle.ss_build.specs.Built.{ids}
use Rattle.ss_build.specs.Places.{IsTakenSoFar}
use Rattle.ss_build.proofs.Valid.{length-ids}
use Rattle.ss_build.proofs.Told.{fresh_taken, told_all}
use Rattle.ss_build.proofs.siblings.siblings_of.Goals as goal

pub order_all-requires-clause-taken : goal.order_all-requires-clause-taken
order_all-requires-clause-taken c =
    let e : c.in_ok-taken.taken.items ≡ replicate (length c.args.claims.now) false = search rules in
    subst (λ w. IsTakenSoFar (ids c.args.claims.now) w c.deref_mut.result.now) (sym c.in_ok-order.ensures.items)
    (fresh_taken (ids c.args.claims.now) c.deref_mut.result.now (length c.args.claims.now) (length-ids c.args.claims.now) (c.deref_mut.ensures.value ∙ e))

pub returns : goal.returns
returns c = record {
  names = c.in_ok-left.ensures.names;
  bounded = λ k l.
      let n : length (ids c.args.claims.now) ≡ length c.args.claims.now = length-ids c.args.claims.now in
      let b : get_or c.order_all.new.order.items k 0 < length (ids c.args.claims.now) = c.in_ok-left.ensures.taken.bounded k l in
      omega arith;
  as_told = take_at c.untell.new.as_told _ _ (omega arith)
      ∙ told_all c.args.claims.now c.args.parents.now c.deref_mut-2.result.now c.untell.new.as_told c.deref.result.now c.requires.items c.requires.parents (c.deref_mut-2.ensures.value ∙ c.in_ok-left.ensures.as_told)
      (c.deref.ensures.value ∙ c.in_ok-left.ensures.left) (omega arith) c.untell.ensures;
}
