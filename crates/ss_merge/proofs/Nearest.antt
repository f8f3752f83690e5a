-- The nearest goal on a walk that comes to a root.
use Rattle.std.proofs.Common.{◌≡◌, ◌⊎◌, ℕ, zero, suc, ◌<◌, ◌≤◌, Bool, true, false, cond, Option, Some, None, sym, ap}
use Rattle.std.proofs.Common.{subst, ◌∙◌, inl, inr, arith}
use Rattle.ss_dupe.specs.Walks.{meets}
use Rattle.ss_merge.specs.Nearest.{goal_or, nearest}
use Rattle.ss_dupe.proofs.Basics.{or_rest, some_from_passes, false_from}
use Rattle.std.proofs.lemmas.Bool.{cases_Bool}
use Rattle.ss_text.proofs.Basics.{no_way}

-- the nearest stop, which has P, and is nearer to a root
pub record IsFound {A : Type 0} (step : A → Option A) (stop root : A → Bool) (P : A → Type 0) (most d : ℕ) (x : A) : Type 0 where
  pub at : A
  pub is : nearest step stop most x ≡ Some at
  pub stops : stop at ≡ true
  pub has : P at
  pub left : ℕ
  pub nearer : left < d
  pub rest : meets step root left at ≡ true

module _ {A : Type 0} (step : A → Option A) (stop root : A → Bool) (roots_stop : (y : A) → root y ≡ true → stop y ≡ true)
    (P : A → Type 0) (kept : (y z : A) → P y → root y ≡ false → step y ≡ Some z → P z) where
  pub found : (d most : ℕ) (x : A) → d ≤ most → P x → root x ≡ false → meets step root d x ≡ true → IsFound step stop root P most d x
  found zero most x le p miss h = no_way (root x) h miss
  found (suc d) zero x le p miss h = absurd (omega arith)
  found (suc d) (suc most) x le p miss h =
      let next = some_from_passes (meets step root d) (step x) (or_rest (root x) _ h miss) in
      at_next next.0 next.1 next.2 (cases_Bool (stop next.0)) (λ q. found d most next.0 (omega arith) (kept x next.0 p miss next.1) q next.2)
    where
      first : (q : A) → step x ≡ Some q → nearest step stop (suc most) x ≡ cond (stop q) (Some q) (nearest step stop most q)
      first q e = ap (goal_or stop (nearest step stop most)) e

      at_next : (q : A) → step x ≡ Some q → meets step root d q ≡ true → (stop q ≡ true) ⊎ (stop q ≡ false) → (root q ≡ false → IsFound step stop root P most d q) → IsFound step stop root P (suc most) (suc d) x
      at_next q e h (inl hit) more = record {
        at = q;
        is = first q e ∙ ap (λ b. cond b (Some q) (nearest step stop most q)) hit;
        stops = hit;
        has = kept x q p miss e;
        left = d;
        nearer = omega arith;
        rest = h;
      }
      at_next q e h (inr miss) more =
          let f = more (false_from (root q) (λ r. no_way (stop q) (roots_stop q r) miss)) in
          record {
            at = f.at;
            is = first q e ∙ ap (λ b. cond b (Some q) (nearest step stop most q)) miss ∙ f.is;
            stops = f.stops;
            has = f.has;
            left = f.left;
            nearer = (let n = f.nearer in omega arith);
            rest = f.rest;
          }

goal_or-stops : {A : Type 0} (goal : A → Bool) (next : A → Option A) (o : Option A) (p : A) → ((q : A) → next q ≡ Some p → goal p ≡ true) → goal_or goal next o ≡ Some p → goal p ≡ true
goal_or-stops goal next None p more e = cc
goal_or-stops goal next (Some q) p more e = cases (cases_Bool (goal q))
  where
    cases : (goal q ≡ true) ⊎ (goal q ≡ false) → goal p ≡ true
    cases (inl hit) =
        let there : Some q ≡ Some p = sym (ap (λ b. cond b (Some q) (next q)) hit) ∙ e in
        let is : q ≡ p = cc in
        subst (λ z. goal z ≡ true) is hit
    cases (inr miss) = more q (sym (ap (λ b. cond b (Some q) (next q)) miss) ∙ e)

-- the nearest stop is one
pub nearest-stops : {A : Type 0} (step : A → Option A) (goal : A → Bool) (n : ℕ) (x p : A) → nearest step goal n x ≡ Some p → goal p ≡ true
nearest-stops step goal zero x p e = cc
nearest-stops step goal (suc n) x p e = goal_or-stops goal (nearest step goal n) (step x) p (λ q. nearest-stops step goal n q p) e
