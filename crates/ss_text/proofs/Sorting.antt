-- What a stable sort leaves is the sorted list.
use Rattle.std.proofs.Common.{◌≡◌, ℕ, suc, ◌<◌, ◌≤◌, List, [], ◌∷◌, length, filter, get_or, Bool, true, false, not}
use Rattle.std.proofs.Common.{◌&&◌, cond, refl, sym, ap, ap₂, ◌∙◌, subst, arith}
use Rattle.std.proofs.lemmas.Bool.{true≢false, and_parts, not-true}
use Rattle.std.proofs.lemmas.List.Sorted.{sorted_far}
use Rattle.std.specs.Cmp.{IsStrictWeakOrder}
use Rattle.std.specs.List.{AllByRecursion}
use Rattle.std.specs.List.Sorted.{IsSortedBy, IsStableBy, ties}
use Rattle.ss_text.specs.Texts.{list_with, sorted}

each_from : {X : Type 0} (P : X → Type 0) (xs : List X) → ((j : ℕ) (d : X) → j < length xs → P (get_or xs j d)) → AllByRecursion P xs
each_from P [] h = tt
each_from P (x ∷ xs) h = (h 0 x (omega arith), each_from P xs (λ j d l. h (suc j) d (omega arith)))

each_imp : {X : Type 0} (P Q : X → Type 0) → ((x : X) → P x → Q x) → (xs : List X) → AllByRecursion P xs → AllByRecursion Q xs
each_imp P Q f [] h = tt
each_imp P Q f (x ∷ xs) h = (f x h.0, each_imp P Q f xs h.1)

-- the first that passes is one of the list
one_passes : {X : Type 0} (b : Bool) (Q : X → Type 0) (y x : X) (ys rest : List X) → cond b (y ∷ ys) ys ≡ x ∷ rest → Q y → (ys ≡ x ∷ rest → Q x) → Q x
one_passes true Q y x ys rest e h later = let same : y ≡ x = cc in subst Q same h
one_passes false Q y x ys rest e h later = later e

first_passes : {X : Type 0} (p : X → Bool) (Q : X → Type 0) (ys : List X) (x : X) (rest : List X) → filter p ys ≡ x ∷ rest → AllByRecursion Q ys → Q x
first_passes p Q [] x rest e all = cc
first_passes p Q (y ∷ ys) x rest e all = one_passes (p y) Q y x (filter p ys) rest e all.0 (λ later. first_passes p Q ys x rest later all.1)

rest_same : {X : Type 0} (b : Bool) (x : X) (xs ys : List X) → cond b (x ∷ xs) xs ≡ cond b (x ∷ ys) ys → xs ≡ ys
rest_same true x xs ys e = cc
rest_same false x xs ys e = e

module _ {X : Type 0} (lt : X → X → Bool) (order : IsStrictWeakOrder lt) where
  never_itself : (x : X) → lt x x ≡ false
  never_itself x = self (lt x x) (order.one_way x x)
    where
      self : (b : Bool) → (b ≡ true → b ≡ false) → b ≡ false
      self true h = h refl
      self false h = refl

  ties_itself : (x : X) → ties lt x x ≡ true
  ties_itself x = ap₂ (λ a b. not a && not b) (never_itself x) (never_itself x)

  abbrev InOrder : List X → Type 0
  InOrder [] = Unit {0}
  InOrder (x ∷ xs) = AllByRecursion (λ z. lt z x ≡ false) xs × InOrder xs

  in_order-from_far : (xs : List X) → ((i j : ℕ) (d : X) → i ≤ j → j < length xs → lt (get_or xs j d) (get_or xs i d) ≡ false) → InOrder xs
  in_order-from_far [] h = tt
  in_order-from_far (x ∷ xs) h =
      (each_from (λ z. lt z x ≡ false) xs (λ j d l. h 0 (suc j) d (omega arith) (omega arith)), in_order-from_far xs (λ i j d k l. h (suc i) (suc j) d (omega arith) (omega arith)))

  first_of_same : (x y : X) (xs ys : List X) → InOrder (y ∷ ys) → ((w : X) → filter (ties lt w) (x ∷ xs) ≡ filter (ties lt w) (y ∷ ys)) → lt x y ≡ false
  first_of_same x y xs ys o same =
      first_passes (ties lt x) (λ z. lt z y ≡ false) (y ∷ ys) x (filter (ties lt x) xs)
      (sym (same x) ∙ ap (λ b. cond b (x ∷ filter (ties lt x) xs) (filter (ties lt x) xs)) (ties_itself x)) (never_itself y, o.0)

  heads_same : (x y : X) (xs ys : List X) → InOrder (x ∷ xs) → InOrder (y ∷ ys) → ((w : X) → filter (ties lt w) (x ∷ xs) ≡ filter (ties lt w) (y ∷ ys)) → x ≡ y
  heads_same x y xs ys o p same =
      let tied : ties lt x y ≡ true = ap₂ (λ a b. not a && not b) (first_of_same x y xs ys p same) (first_of_same y x ys xs o (λ w. sym (same w))) in
      let e : x ∷ filter (ties lt x) xs ≡ y ∷ filter (ties lt x) ys =
      sym (ap (λ b. cond b (x ∷ filter (ties lt x) xs) (filter (ties lt x) xs)) (ties_itself x)) ∙ same x
      ∙ ap (λ b. cond b (y ∷ filter (ties lt x) ys) (filter (ties lt x) ys)) tied in
      cc

  -- two lists in order whose ties stand alike are one
  in_order_unique : (xs ys : List X) → InOrder xs → InOrder ys → ((w : X) → filter (ties lt w) xs ≡ filter (ties lt w) ys) → xs ≡ ys
  in_order_unique [] [] o p same = refl
  in_order_unique [] (y ∷ ys) o p same = let e : [] ≡ y ∷ filter (ties lt y) ys = same y ∙ ap (λ b. cond b (y ∷ filter (ties lt y) ys) (filter (ties lt y) ys)) (ties_itself y) in cc
  in_order_unique (x ∷ xs) [] o p same = let e : [] ≡ x ∷ filter (ties lt x) xs = sym (same x) ∙ ap (λ b. cond b (x ∷ filter (ties lt x) xs) (filter (ties lt x) xs)) (ties_itself x) in cc
  in_order_unique (x ∷ xs) (y ∷ ys) o p same =
      let h : x ≡ y = heads_same x y xs ys o p same in
      ap₂ (λ a l. a ∷ l) h
      (in_order_unique xs ys o.1 p.1 (λ w. rest_same (ties lt w x) x (filter (ties lt w) xs) (filter (ties lt w) ys) (same w ∙ ap (λ z. filter (ties lt w) (z ∷ ys)) (sym h))))

  each_step : (P : X → Type 0) (b : Bool) (x y : X) (ys more : List X) → P x → P y → AllByRecursion P ys → AllByRecursion P more → AllByRecursion P (cond b (y ∷ more) (x ∷ y ∷ ys))
  each_step P true x y ys more h g all later = (g, later)
  each_step P false x y ys more h g all later = (h, (g, all))

  each_placed : (P : X → Type 0) (x : X) (ys : List X) → P x → AllByRecursion P ys → AllByRecursion P (list_with lt x ys)
  each_placed P x [] h all = (h, tt)
  each_placed P x (y ∷ ys) h all = each_step P (lt y x) x y ys (list_with lt x ys) h all.0 all.1 (each_placed P x ys h all.1)

  in_order_step : (b : Bool) (x y : X) (ys : List X) → lt y x ≡ b → InOrder (y ∷ ys) → InOrder (list_with lt x ys) → InOrder (cond b (y ∷ list_with lt x ys) (x ∷ y ∷ ys))
  in_order_step true x y ys t o later = (each_placed (λ z. lt z y ≡ false) x ys (order.one_way y x t) o.0, later)
  in_order_step false x y ys t o later = ((t, each_imp (λ z. lt z y ≡ false) (λ z. lt z x ≡ false) (λ z h. order.chain z y x h t) ys o.0), o)

  in_order-placed : (x : X) (ys : List X) → InOrder ys → InOrder (list_with lt x ys)
  in_order-placed x [] o = (tt, tt)
  in_order-placed x (y ∷ ys) o = in_order_step (lt y x) x y ys refl o (in_order-placed x ys o.1)

  in_order-sorted : (xs : List X) → InOrder (sorted lt xs)
  in_order-sorted [] = tt
  in_order-sorted (x ∷ xs) = in_order-placed x (sorted lt xs) (in_order-sorted xs)

  -- of two that tie with w neither comes before the other
  both_tied : (w x y : X) → ties lt w x ≡ true → ties lt w y ≡ true → lt y x ≡ false
  both_tied w x y t u =
      order.chain y w x (not-true (lt y w) (and_parts (not (lt w y)) (not (lt y w)) u).1) (not-true (lt w x) (and_parts (not (lt w x)) (not (lt x w)) t).0)

  passed : (a b : Bool) (x y : X) (l f : List X) → (a ≡ true → b ≡ true → ⊥) → l ≡ cond a (x ∷ f) f → cond b (y ∷ l) l ≡ cond a (x ∷ cond b (y ∷ f) f) (cond b (y ∷ f) f)
  passed true true x y l f never e = absurd (never refl refl)
  passed true false x y l f never e = e
  passed false b x y l f never e = ap (λ m. cond b (y ∷ m) m) e

  ties_step : (b : Bool) (w x y : X) (ys : List X) → lt y x ≡ b → filter (ties lt w) (list_with lt x ys) ≡ filter (ties lt w) (x ∷ ys)
      → filter (ties lt w) (cond b (y ∷ list_with lt x ys) (x ∷ y ∷ ys)) ≡ filter (ties lt w) (x ∷ y ∷ ys)
  ties_step true w x y ys t later =
      passed (ties lt w x) (ties lt w y) x y (filter (ties lt w) (list_with lt x ys)) (filter (ties lt w) ys) (λ a b. true≢false (sym t ∙ both_tied w x y a b)) later
  ties_step false w x y ys t later = refl

  ties-placed : (w x : X) (ys : List X) → filter (ties lt w) (list_with lt x ys) ≡ filter (ties lt w) (x ∷ ys)
  ties-placed w x [] = refl
  ties-placed w x (y ∷ ys) = ties_step (lt y x) w x y ys refl (ties-placed w x ys)

  ties-sorted : (w : X) (xs : List X) → filter (ties lt w) (sorted lt xs) ≡ filter (ties lt w) xs
  ties-sorted w [] = refl
  ties-sorted w (x ∷ xs) = ties-placed w x (sorted lt xs) ∙ ap (λ l. cond (ties lt w x) (x ∷ l) l) (ties-sorted w xs)

  -- what a stable sort leaves
  pub sorted_is : (xs ys : List X) → IsSortedBy lt ys → IsStableBy lt xs ys → ys ≡ sorted lt xs
  sorted_is xs ys up stable =
      in_order_unique ys (sorted lt xs) (in_order-from_far ys (sorted_far lt order ys up)) (in_order-sorted xs) (λ w. stable w ∙ sym (ties-sorted w xs))

  -- lists whose ties stand alike have one sorted list
  pub sorted_alike : (xs ys : List X) → ((w : X) → filter (ties lt w) xs ≡ filter (ties lt w) ys) → sorted lt xs ≡ sorted lt ys
  sorted_alike xs ys same = in_order_unique (sorted lt xs) (sorted lt ys) (in_order-sorted xs) (in_order-sorted ys) (λ w. ties-sorted w xs ∙ same w ∙ sym (ties-sorted w ys))
