-- A walk inside a list that comes to a goal comes to it in as many steps as the list is long.
use Rattle.std.proofs.Common.{◌≡◌, ◌⊎◌, ℕ, zero, suc, ◌<◌, ◌≤◌, Bool, true, false, cond, not, List, [], ◌∷◌, length}
use Rattle.std.proofs.Common.{filter, Option, Some, refl, sym, ap, subst, ◌∙◌, inl, inr, arith, Decides, true≢false}
use Rattle.std.specs.List.{list_any}
use Rattle.ss_dupe.specs.Walks.{meets}
use Rattle.ss_dupe.proofs.Basics.{or_rest, some_from_passes}
use Rattle.ss_dupe.proofs.Walks.{meets_longer, meets_stepped}
use Rattle.std.proofs.lemmas.Bool.{cases_Bool, or_left, or_right}
use Rattle.ss_text.proofs.Basics.{no_way}

-- eq tells the elements apart
module _ {A : Type 0} (eq : A → A → Bool) (tells : (x y : A) → Decides (eq x y) (x ≡ y)) where
  -- whether the list has x, and the list without y
  abbrev pub has : A → List A → Bool
  has x xs = list_any (eq x) xs

  abbrev pub without : A → List A → List A
  without y xs = filter (λ z. not (eq y z)) xs

  without-cons : (b : Bool) (y x : A) (xs : List A) → eq y x ≡ b → without y (x ∷ xs) ≡ cond b (without y xs) (x ∷ without y xs)
  without-cons true y x xs e = ap (λ c. cond (not c) (x ∷ without y xs) (without y xs)) e
  without-cons false y x xs e = ap (λ c. cond (not c) (x ∷ without y xs) (without y xs)) e

  length-without_le : (y : A) (xs : List A) → length (without y xs) ≤ length xs
  length-without_le y [] = omega arith
  length-without_le y (x ∷ xs) = cases (eq y x) refl (length-without_le y xs)
    where
      cases : (b : Bool) → eq y x ≡ b → length (without y xs) ≤ length xs → length (without y (x ∷ xs)) ≤ length (x ∷ xs)
      cases true e h = subst (λ l. length l ≤ length (x ∷ xs)) (sym (without-cons true y x xs e)) (omega arith)
      cases false e h = subst (λ l. length l ≤ length (x ∷ xs)) (sym (without-cons false y x xs e)) (omega arith)

  pub length-without_lt : (y : A) (xs : List A) → has y xs ≡ true → length (without y xs) < length xs
  length-without_lt y [] h = absurd (true≢false (sym h))
  length-without_lt y (x ∷ xs) h = cases (cases_Bool (eq y x)) (λ k. length-without_lt y xs k)
    where
      cases : (eq y x ≡ true) ⊎ (eq y x ≡ false) → (has y xs ≡ true → length (without y xs) < length xs) → length (without y (x ∷ xs)) < length (x ∷ xs)
      cases (inl e) more =
          let le = length-without_le y xs in
          subst (λ l. length l < length (x ∷ xs)) (sym (without-cons true y x xs e)) (omega arith)
      cases (inr e) more =
          let lt = more (or_rest (eq y x) _ h e) in
          subst (λ l. length l < length (x ∷ xs)) (sym (without-cons false y x xs e)) (omega arith)

  pub has-without : (y z : A) (xs : List A) → ¬ (y ≡ z) → has z xs ≡ true → has z (without y xs) ≡ true
  has-without y z [] apart h = h
  has-without y z (x ∷ xs) apart h = cases (cases_Bool (eq y x)) (cases_Bool (eq z x)) (has-without y z xs apart)
    where
      cases : (eq y x ≡ true) ⊎ (eq y x ≡ false) → (eq z x ≡ true) ⊎ (eq z x ≡ false) → (has z xs ≡ true → has z (without y xs) ≡ true) → has z (without y (x ∷ xs)) ≡ true
      cases (inl e) (inl p) more = absurd (apart ((tells y x).0 e ∙ sym ((tells z x).0 p)))
      cases (inl e) (inr k) more = subst (λ l. has z l ≡ true) (sym (without-cons true y x xs e)) (more (or_rest (eq z x) _ h k))
      cases (inr e) (inl p) more = subst (λ l. has z l ≡ true) (sym (without-cons false y x xs e)) (or_left (eq z x) _ p)
      cases (inr e) (inr k) more = subst (λ l. has z l ≡ true) (sym (without-cons false y x xs e)) (or_right (eq z x) _ (more (or_rest (eq z x) _ h k)))

  module _ (step : A → Option A) (goal : A → Bool) where
    -- the walk comes to its first goal after n steps
    abbrev pub Takes : ℕ → A → Type 0
    Takes zero x = goal x ≡ true
    Takes (suc n) x = (goal x ≡ false) × ((p : A) × (step x ≡ Some p) × Takes n p)

    -- the bytes_eq, and what it passes is in the list
    abbrev pub TakesIn : List A → ℕ → A → Type 0
    TakesIn xs zero x = goal x ≡ true
    TakesIn xs (suc n) x = (goal x ≡ false) × ((has x xs ≡ true) × ((p : A) × (step x ≡ Some p) × TakesIn xs n p))

    pub takes_from_meets : (n : ℕ) (x : A) → meets step goal n x ≡ true → (k : ℕ) × Takes k x
    takes_from_meets zero x h = (0, h)
    takes_from_meets (suc n) x h = cases (cases_Bool (goal x)) (λ p k. takes_from_meets n p k)
      where
        cases : (goal x ≡ true) ⊎ (goal x ≡ false) → ((p : A) → meets step goal n p ≡ true → (k : ℕ) × Takes k p) → (k : ℕ) × Takes k x
        cases (inl e) more = (0, e)
        cases (inr e) more =
            let next = some_from_passes (meets step goal n) (step x) (or_rest (goal x) _ h e) in
            let rest = more next.0 next.2 in
            (suc rest.0, (e, (next.0, next.1, rest.1)))

    pub takes_one : (n m : ℕ) (x : A) → Takes n x → Takes m x → n ≡ m
    takes_one zero zero x h k = refl
    takes_one zero (suc m) x h k = no_way (goal x) h k.0
    takes_one (suc n) zero x h k = no_way (goal x) k h.0
    takes_one (suc n) (suc m) x h k =
        let e : h.1.0 ≡ k.1.0 = cc (h.1.1, k.1.1) in
        ap suc (takes_one n m k.1.0 (subst (Takes n) e h.1.2) k.1.2)

    takes : (xs : List A) (n : ℕ) (x : A) → TakesIn xs n x → Takes n x
    takes xs zero x h = h
    takes xs (suc n) x h = (h.0, (h.1.1.0, h.1.1.1, takes xs n h.1.1.0 h.1.1.2))

    pub takes_in : (xs : List A) → ((y z : A) → has y xs ≡ true → goal y ≡ false → step y ≡ Some z → has z xs ≡ true) → (n : ℕ) (x : A) → has x xs ≡ true → Takes n x → TakesIn xs n x
    takes_in xs closed zero x h k = k
    takes_in xs closed (suc n) x h k = (k.0, (h, (k.1.0, k.1.1, takes_in xs closed n k.1.0 (closed x k.1.0 h k.0 k.1.1) k.1.2)))

    -- what takes longer is not on the way
    takes_without : (xs : List A) (y : A) (m n : ℕ) (x : A) → Takes m y → n < m → TakesIn xs n x → TakesIn (without y xs) n x
    takes_without xs y m zero x long lt h = h
    takes_without xs y m (suc n) x long lt h =
        let apart : ¬ (y ≡ x) = λ e. let same_n : m ≡ suc n = takes_one m (suc n) x (subst (Takes m) e long) (takes xs (suc n) x h) in omega arith in
        (h.0, (has-without y x xs apart h.1.0, (h.1.1.0, h.1.1.1, takes_without xs y m n h.1.1.0 long (omega arith) h.1.1.2)))

    pub takes_at_most : (n : ℕ) (xs : List A) (x : A) → TakesIn xs n x → n ≤ length xs
    takes_at_most zero xs x h = omega arith
    takes_at_most (suc n) xs x h =
        let rest = takes_at_most n (without x xs) h.1.1.0 (takes_without xs x (suc n) n h.1.1.0 (takes xs (suc n) x h) (omega arith) h.1.1.2) in
        let shorter = length-without_lt x xs h.1.0 in
        omega arith

    meets_from_takes : (n : ℕ) (x : A) → Takes n x → meets step goal n x ≡ true
    meets_from_takes zero x h = h
    meets_from_takes (suc n) x h = meets_stepped step goal n x h.1.0 h.1.1 (meets_from_takes n h.1.0 h.1.2)

    module _ (xs : List A) (closed : (y z : A) → has y xs ≡ true → goal y ≡ false → step y ≡ Some z → has z xs ≡ true) where
      -- steps stay in the list until a goal: then the list's length is enough
      pub meets_within : (n : ℕ) (x : A) → has x xs ≡ true → meets step goal n x ≡ true → meets step goal (length xs) x ≡ true
      meets_within n x h k =
          let t = takes_from_meets n x k in
          meets_longer step goal t.0 (length xs) x (takes_at_most t.0 xs x (takes_in xs closed t.0 x h t.1)) (meets_from_takes t.0 x t.1)

      -- and the walk from the next element has the bytes_eq end
      pub meets_next : (x y : A) → has x xs ≡ true → goal x ≡ false → step x ≡ Some y → meets step goal (length xs) x ≡ meets step goal (length xs) y
      meets_next x y h miss e = cases (cases_Bool (meets step goal (length xs) x)) (cases_Bool (meets step goal (length xs) y))
        where
          back : meets step goal (length xs) y ≡ true → meets step goal (length xs) x ≡ true
          back k = meets_within (suc (length xs)) x h (meets_stepped step goal (length xs) x y e k)

          on : meets step goal (length xs) x ≡ true → meets step goal (length xs) y ≡ true
          on k =
              let further = some_from_passes (meets step goal (length xs)) (step x) (or_rest (goal x) _ (meets_longer step goal (length xs) (suc (length xs)) x (omega arith) k) miss) in
              let is : further.0 ≡ y = cc (further.1, e) in
              subst (λ z. meets step goal (length xs) z ≡ true) is further.2

          cases : (meets step goal (length xs) x ≡ true) ⊎ (meets step goal (length xs) x ≡ false) → (meets step goal (length xs) y ≡ true) ⊎ (meets step goal (length xs) y ≡ false) → meets step goal (length xs) x ≡ meets step goal (length xs) y
          cases (inl a) (inl b) = a ∙ sym b
          cases (inl a) (inr b) = no_way (meets step goal (length xs) y) (on a) b
          cases (inr a) (inl b) = no_way (meets step goal (length xs) x) (back b) a
          cases (inr a) (inr b) = a ∙ sym b
