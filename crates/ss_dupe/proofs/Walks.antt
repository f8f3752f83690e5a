-- Laws of walks.
use Rattle.std.proofs.Common.{◌≡◌, ℕ, zero, suc, ◌≤◌, Bool, true, false, ◌||◌, Option, Some, sym, subst, arith}
use Rattle.ss_dupe.specs.Walks.{passes, meets, Meets}
use Rattle.ss_dupe.proofs.Basics.{or_more, passes-more, passes-some, false_from}
use Rattle.std.proofs.lemmas.Bool.{or_left, or_right}
use Rattle.ss_text.proofs.Basics.{no_way}

pub meets_longer : {A : Type 0} (step : A → Option A) (goal : A → Bool) (n m : ℕ) (x : A) → n ≤ m → meets step goal n x ≡ true → meets step goal m x ≡ true
meets_longer step goal zero zero x le h = h
meets_longer step goal zero (suc m) x le h = or_left (goal x) _ h
meets_longer step goal (suc n) zero x le h = absurd (omega arith)
meets_longer step goal (suc n) (suc m) x le h = or_more (goal x) _ _ (passes-more (meets step goal n) (meets step goal m) (λ y. meets_longer step goal n m y (omega arith)) (step x)) h

-- one step and then a walk
pub meets_stepped : {A : Type 0} (step : A → Option A) (goal : A → Bool) (n : ℕ) (x p : A) → step x ≡ Some p → meets step goal n p ≡ true → meets step goal (suc n) x ≡ true
meets_stepped step goal n x p e h = or_right (goal x) _ (passes-some (meets step goal n) (step x) p e h)

pub Meets-step : {A : Type 0} (step : A → Option A) (goal : A → Bool) (x p : A) → step x ≡ Some p → Meets step goal p → Meets step goal x
Meets-step step goal x p e r = (suc r.0, meets_stepped step goal r.0 x p e r.1)

pub no_goal : {A : Type 0} (step : A → Option A) (goal : A → Bool) (n : ℕ) (x : A) → meets step goal n x ≡ false → goal x ≡ false
no_goal step goal n x e = false_from (goal x) (λ h. no_way (meets step goal n x) (meets_longer step goal 0 n x (omega arith) h) e)

-- a step that agrees with another along its walks to a goal comes to the goal too
pub meets-agree : {A : Type 0} (step next : A → Option A) (goal : A → Bool) (most : ℕ) → ((x : A) → meets step goal most x ≡ true → next x ≡ step x) → (n : ℕ) (x : A) → n ≤ most → meets step goal n x ≡ true → meets next goal n x ≡ true
meets-agree step next goal most is zero x le h = h
meets-agree step next goal most is (suc n) x le h =
    let here : next x ≡ step x = is x (meets_longer step goal (suc n) most x le h) in
    subst (λ o. (goal x || passes (meets next goal n) o) ≡ true) (sym here) (or_more (goal x) _ _ (passes-more (meets step goal n) (meets next goal n) (λ y. meets-agree step next goal most is n y (omega arith)) (step x)) h)
