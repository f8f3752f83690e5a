-- The nearest goal of a walk inside a list: as many steps as the list is long find it.
use Rattle.std.proofs.Common.{◌≡◌, ◌<◌, ◌≤◌, ℕ, zero, suc, Bool, true, false, cond, List, length, Option, Some, None}
use Rattle.std.proofs.Common.{refl, sym, ap, ◌∙◌, arith, Decides}
use Rattle.ss_merge.specs.Nearest.{goal_or, nearest}
use Rattle.ss_dupe.proofs.Bounds.{has, without, length-without_lt, has-without, Takes, TakesIn, takes_in, takes_at_most}
use Rattle.ss_text.proofs.Basics.{no_way}

module _ {A : Type 0} (step : A → Option A) (goal : A → Bool) where
  -- what fewer steps find more steps find
  pub nearest_longer : (n m : ℕ) (x p : A) → n ≤ m → nearest step goal n x ≡ Some p → nearest step goal m x ≡ Some p
  nearest_longer zero m x p le e = cc
  nearest_longer (suc n) zero x p le e = absurd (omega arith)
  nearest_longer (suc n) (suc m) x p le e = on (step x) (λ y. nearest_longer n m y p (omega arith)) e
    where
      on : (o : Option A) → ((y : A) → nearest step goal n y ≡ Some p → nearest step goal m y ≡ Some p) → goal_or goal (nearest step goal n) o ≡ Some p → goal_or goal (nearest step goal m) o ≡ Some p
      on None more h = h
      on (Some y) more h = at (goal y) (more y) h
        where
          at : (b : Bool) → (nearest step goal n y ≡ Some p → nearest step goal m y ≡ Some p) → cond b (Some y) (nearest step goal n y) ≡ Some p → cond b (Some y) (nearest step goal m y) ≡ Some p
          at true more h = h
          at false more h = more h

  module _ (eq : A → A → Bool) (tells : (x y : A) → Decides (eq x y) (x ≡ y)) where
    -- where one step more finds a goal, it is that many steps away
    exact : (n : ℕ) (x p : A) → nearest step goal (suc n) x ≡ Some p → nearest step goal n x ≡ None → (z : A) × (step x ≡ Some z) × Takes eq tells step goal n z
    exact zero x p e none = on (step x) refl e
      where
        on : (o : Option A) → step x ≡ o → goal_or goal (nearest step goal zero) o ≡ Some p → (z : A) × (step x ≡ Some z) × Takes eq tells step goal zero z
        on None s h = cc
        on (Some z) s h = at (goal z) refl h
          where
            at : (b : Bool) → goal z ≡ b → cond b (Some z) None ≡ Some p → (w : A) × (step x ≡ Some w) × Takes eq tells step goal zero w
            at true g h = (z, s, g)
            at false g h = cc
    exact (suc n) x p e none = on (step x) refl (λ z. exact n z p) e none
      where
        on : (o : Option A) → step x ≡ o → ((z : A) → nearest step goal (suc n) z ≡ Some p → nearest step goal n z ≡ None → (w : A) × (step z ≡ Some w) × Takes eq tells step goal n w)
            → goal_or goal (nearest step goal (suc n)) o ≡ Some p → goal_or goal (nearest step goal n) o ≡ None → (z : A) × (step x ≡ Some z) × Takes eq tells step goal (suc n) z
        on None s more h k = cc
        on (Some z) s more h k = at (goal z) refl (more z) h k
          where
            at : (b : Bool) → goal z ≡ b → (nearest step goal (suc n) z ≡ Some p → nearest step goal n z ≡ None → (w : A) × (step z ≡ Some w) × Takes eq tells step goal n w)
                → cond b (Some z) (nearest step goal (suc n) z) ≡ Some p → cond b (Some z) (nearest step goal n z) ≡ None → (w : A) × (step x ≡ Some w) × Takes eq tells step goal (suc n) w
            at true g more h k = cc
            at false g more h k = (z, s, (g, more h k))

    module _ (xs : List A) (closed : (y z : A) → has eq tells y xs ≡ true → step y ≡ Some z → has eq tells z xs ≡ true) where
      -- the goal that a walk takes is in the list
      end_of : (n : ℕ) (z : A) → has eq tells z xs ≡ true → Takes eq tells step goal n z → (p : A) × (goal p ≡ true) × (has eq tells p xs ≡ true)
      end_of zero z i t = (z, t, i)
      end_of (suc n) z i t = end_of n t.1.0 (closed z t.1.0 i t.1.1) t.1.2

      -- no element before it is that goal
      before_goal : (p : A) → goal p ≡ true → (n : ℕ) (z : A) → TakesIn eq tells step goal xs n z → TakesIn eq tells step goal (without eq tells p xs) n z
      before_goal p g zero z t = t
      before_goal p g (suc n) z t = (t.0, (has-without eq tells p z xs (λ e. no_way (goal z) (ap goal (sym e) ∙ g) t.0) t.1.0, (t.1.1.0, t.1.1.1, before_goal p g n t.1.1.0 t.1.1.2)))

      short : (n : ℕ) (z : A) → has eq tells z xs ≡ true → Takes eq tells step goal n z → n < length xs
      short n z i t =
          let end = end_of n z i t in
          let inside = takes_in eq tells step goal xs (λ y w h miss e. closed y w h e) n z i t in
          let le = takes_at_most eq tells step goal n (without eq tells end.0 xs) z (before_goal end.0 end.1 n z inside) in
          let lt = length-without_lt eq tells end.0 xs end.2 in
          omega arith

      -- what any number of steps finds
      pub stable : (m : ℕ) (x p : A) → has eq tells x xs ≡ true → nearest step goal m x ≡ Some p → nearest step goal (length xs) x ≡ Some p
      stable zero x p i e = cc
      stable (suc m) x p i e = cases (nearest step goal m x) refl (λ q. stable m x q i)
        where
          cases : (o : Option A) → nearest step goal m x ≡ o → ((q : A) → nearest step goal m x ≡ Some q → nearest step goal (length xs) x ≡ Some q) → nearest step goal (length xs) x ≡ Some p
          cases (Some q) h more = more q h ∙ (sym (nearest_longer m (suc m) x q (omega arith) h) ∙ e)
          cases None h more =
              let far = exact m x p e h in
              let lt = short m far.0 (closed x far.0 i far.1) far.2 in
              nearest_longer (suc m) (length xs) x p (omega arith) e

      -- so the nearest goal is the next one, or the next one's
      pub nearest_on : (x : A) → has eq tells x xs ≡ true → nearest step goal (length xs) x ≡ goal_or goal (nearest step goal (length xs)) (step x)
      nearest_on x i = cases (nearest step goal (length xs) x) refl (nearest step goal (suc (length xs)) x) refl
        where
          cases : (o : Option A) → nearest step goal (length xs) x ≡ o → (r : Option A) → nearest step goal (suc (length xs)) x ≡ r → nearest step goal (length xs) x ≡ nearest step goal (suc (length xs)) x
          cases (Some p) h r k = h ∙ sym (nearest_longer (length xs) (suc (length xs)) x p (omega arith) h)
          cases None h None k = h ∙ sym k
          cases None h (Some p) k = let there : nearest step goal (length xs) x ≡ Some p = stable (suc (length xs)) x p i k in cc
