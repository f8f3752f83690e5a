use Rattle.std.proofs.Common.{rules, refl, subst, ◌∙◌, ◌≡◌, ◌<◌, ◌≤◌, ◌+◌, ℕ, length, arith}
use lib.ListN.{get_elem?}
use Rattle.ss_town.specs.Opening.{HasUid, AreFew}
use Rattle.ss_town.proofs.Openings.{pair_at, none_at_all, one_more_nonzero, all_distinct, one_more_distinct}
use Rattle.ss_town.proofs.Openings.{one_more_other}
use Rattle.ss_town.proofs.opening.fault_of.Goals as goal

pub loop-i-init : goal.loop-i-init
loop-i-init g c = let l = c.args.accounts.now in let lt : c.loop-j.j < length l = search rules in record {
  n = refl;
  in_all = lt;
  below = c.loop-j.invariant.below;
  here = pair_at l c.loop-j.j c.index-accounts-j.result lt;
  none = λ i u less a e. absurd (omega arith);
}

pub returns-then-accounts-i : goal.returns-then-accounts-i
returns-then-accounts-i g c = let l = c.args.accounts.now in let j = c.loop-i.invariant in
    let lt : c.loop-i.i < length l = search rules in
    let few : AreFew l = (search rules, search rules) in
    let less : c.loop-i.i < c.loop-j.j = search rules in
    (few, (c.loop-i.i, c.loop-j.j, less, subst (λ u. HasUid l c.loop-i.i u) c.if-accounts-i.true (pair_at l c.loop-i.i c.index-accounts-i.result lt), j.here))

pub loop-i-preserved : goal.loop-i-preserved
loop-i-preserved g c = let l = c.args.accounts.now in let j = c.loop-i.invariant in
    let lt : c.loop-i.i < length l = search rules in record {
      n = refl;
      in_all = j.in_all;
      below = j.below;
      here = j.here;
      none = one_more_other l c.loop-i.i _ _ (pair_at l c.loop-i.i c.index-accounts-i.result lt) c.if-accounts-i.false j.none;
    }

pub loop-j-preserved : goal.loop-j-preserved
loop-j-preserved g c = let l = c.args.accounts.now in let j = c.loop-i.invariant in
    let all : c.loop-j.j ≤ c.loop-i.i = search rules in record {
      n = refl;
      below = one_more_distinct l c.loop-j.j _ j.below j.here (λ i u less a. j.none i u (omega arith) a);
    }

pub loop-i-2-init : goal.loop-i-2-init
loop-i-2-init g c = let l = c.args.accounts.now in
    let all : length l ≤ c.loop-j.j = search rules in record {
      n = refl;
      below = λ i j u lt less a b. c.loop-j.invariant.below i j u lt (omega arith) a b;
      none = λ i less a. absurd (omega arith);
    }

pub returns-then-accounts-i-eq0 : goal.returns-then-accounts-i-eq0
returns-then-accounts-i-eq0 g c = let l = c.args.accounts.now in let j = c.loop-i-2.invariant in
    let lt : c.loop-i-2.i < length l = search rules in
    let few : AreFew l = (search rules, search rules) in
    (few, all_distinct l (length l) refl j.below, (c.loop-i-2.i, subst (λ u. HasUid l c.loop-i-2.i u) c.if-accounts-i-eq0.true (pair_at l c.loop-i-2.i c.index-accounts-i-in-loop-i-2.result lt)))

pub loop-i-2-preserved : goal.loop-i-2-preserved
loop-i-2-preserved g c = let l = c.args.accounts.now in let j = c.loop-i-2.invariant in
    let lt : c.loop-i-2.i < length l = search rules in record {
      n = refl;
      below = j.below;
      none = one_more_nonzero l c.loop-i-2.i _ (pair_at l c.loop-i-2.i c.index-accounts-i-in-loop-i-2.result lt) c.if-accounts-i-eq0.false j.none;
    }

pub returns : goal.returns
returns g c = let l = c.args.accounts.now in let j = c.loop-i-2.invariant in
    let all : length l ≤ c.loop-i-2.i = search rules in
    let few : AreFew l = (search rules, search rules) in record {
      few = few;
      distinct = all_distinct l (length l) refl j.below;
      none_zero = none_at_all l c.loop-i-2.i all j.none;
    }
