-- A sorted list is all of something in order, and such a list is one.
use Rattle.std.proofs.Common.{◌≡◌, ◌≢◌, List, [], ◌∷◌, Bool, true, false, cond, Contains, ⊎_elim, refl, sym, ap, subst}
use Rattle.std.proofs.Common.{◌∙◌}
use Rattle.std.specs.Cmp.{IsTotalOrder}
use Rattle.std.specs.declared.cmp.Ordering.{Ordering}
use Rattle.std.specs.declared.cmp.Ordering.TheVariants.{Less, Equal, Greater}
use Rattle.std.specs.Ordering.{is_lt, ordering_reverse}
use Rattle.ss_text.specs.Texts.{IsReordering, nothing, head, swapped, chain, list_with, sorted}
use Rattle.ss_text.proofs.Basics.{is_less}
use Rattle.ss_bso.proofs.Lists.{Each, Pairs, Each-imp}
use Rattle.ss_bso.proofs.Reordering.{reordered-refl, Each-reordered}
use Rattle.ss_flat.specs.Greatest.{IsAllInOrder}
use Rattle.ss_flat.proofs.Contained.{contains_nothing, contains_here, contains_there, contains_cases, contains_each}
use Rattle.ss_flat.proofs.Contained.{contains-reordered}

not_turned : (o p : Ordering) → p ≡ ordering_reverse o → is_lt o ≡ false → o ≢ Equal → is_lt p ≡ true
not_turned Less p e f g = let clash : true ≡ false = f in cc
not_turned Equal p e f g = absurd (g refl)
not_turned Greater p e f g = ap is_lt e

not_both : (o p : Ordering) → p ≡ ordering_reverse o → is_lt o ≡ true → is_lt p ≡ true → ⊥
not_both Less p e f g = let clash : false ≡ true = sym (ap is_lt e) ∙ g in cc
not_both Equal p e f g = let clash : false ≡ true = f in cc
not_both Greater p e f g = let clash : false ≡ true = f in cc

module _ {X : Type 0} (cmp : X → X → Ordering) (total : IsTotalOrder cmp) where
  abbrev lt : X → X → Bool
  lt x y = is_lt (cmp x y)

  abbrev Lt : X → X → Type 0
  Lt x y = is_lt (cmp x y) ≡ true

  abbrev Unlike : X → X → Type 0
  Unlike x y = cmp x y ≢ Equal

  lt_through : (x y z : X) → Lt x y → Lt y z → Lt x z
  lt_through x y z e f = ap is_lt (total.trans x y z (is_less (cmp x y) e) (is_less (cmp y z) f))

  lt_turned : (x y : X) → lt y x ≡ false → Unlike x y → Lt x y
  lt_turned x y e apart = not_turned (cmp y x) (cmp x y) (total.antisymm x y) e (λ tie. apart (total.antisymm x y ∙ ap ordering_reverse tie))

  lt_once : (x y : X) → Lt x y → Lt y x → ⊥
  lt_once x y e f = not_both (cmp x y) (cmp y x) (total.antisymm y x) e f

  reordered_step : (b : Bool) (x y : X) (ys : List X) → IsReordering (x ∷ ys) (list_with lt x ys) → IsReordering (x ∷ y ∷ ys) (cond b (y ∷ list_with lt x ys) (x ∷ y ∷ ys))
  reordered_step true x y ys r = chain (swapped x y ys) (head y r)
  reordered_step false x y ys r = reordered-refl (x ∷ y ∷ ys)

  reordered-placed : (x : X) (ys : List X) → IsReordering (x ∷ ys) (list_with lt x ys)
  reordered-placed x [] = reordered-refl (x ∷ [])
  reordered-placed x (y ∷ ys) = reordered_step (lt y x) x y ys (reordered-placed x ys)

  pub reordered-sorted : (xs : List X) → IsReordering xs (sorted lt xs)
  reordered-sorted [] = nothing
  reordered-sorted (x ∷ xs) = chain (head x (reordered-sorted xs)) (reordered-placed x (sorted lt xs))

  order_step : (b : Bool) (x y : X) (ys : List X) → lt y x ≡ b → Unlike x y → Pairs Lt (y ∷ ys) → Pairs Lt (list_with lt x ys) → Pairs Lt (cond b (y ∷ list_with lt x ys) (x ∷ y ∷ ys))
  order_step true x y ys e apart o later = (Each-reordered (Lt y) (reordered-placed x ys) (e, o.0), later)
  order_step false x y ys e apart o later =
      let here : Lt x y = lt_turned x y e apart in
      ((here, Each-imp (Lt y) (Lt x) (λ z f. lt_through x y z here f) ys o.0), o)

  order-placed : (x : X) (ys : List X) → Each (Unlike x) ys → Pairs Lt ys → Pairs Lt (list_with lt x ys)
  order-placed x [] e o = (tt, tt)
  order-placed x (y ∷ ys) e o = order_step (lt y x) x y ys refl e.0 o (order-placed x ys e.1 o.1)

  order-sorted : (xs : List X) → Pairs Unlike xs → Pairs Lt (sorted lt xs)
  order-sorted [] o = tt
  order-sorted (x ∷ xs) o = order-placed x (sorted lt xs) (Each-reordered (Unlike x) (reordered-sorted xs) o.0) (order-sorted xs o.1)

  -- the sorted list of all, each once
  pub all_in_order : (P : X → Type 0) (xs : List X) → Each P xs → ((x : X) → P x → Contains xs x) → Pairs Unlike xs → IsAllInOrder cmp P (sorted lt xs)
  all_in_order P xs each all apart = record {
    each = Each-reordered P (reordered-sorted xs) each;
    all = λ x p. contains-reordered x xs (sorted lt xs) (reordered-sorted xs) (all x p);
    order = order-sorted xs apart;
  }

  one_first : (x y : X) (xs ys : List X) → Pairs Lt (x ∷ xs) → Pairs Lt (y ∷ ys) → Contains (y ∷ ys) x → Contains (x ∷ xs) y → x ≡ y
  one_first x y xs ys o p there back =
      ⊎_elim (λ (e : y ≡ x). sym e)
      (λ (later : Contains ys x). ⊎_elim (λ (e : x ≡ y). e) (λ (after : Contains xs y). absurd (lt_once x y (contains_each (Lt x) xs y o.0 after) (contains_each (Lt y) ys x p.0 later))) (contains_cases x y xs back))
      (contains_cases y x ys there)

  behind : (x y : X) (xs ys : List X) → x ≡ y → Pairs Lt (x ∷ xs) → ((z : X) → Contains (x ∷ xs) z → Contains (y ∷ ys) z) → (z : X) → Contains xs z → Contains ys z
  behind x y xs ys e o there z c =
      ⊎_elim (λ (same : y ≡ z). absurd (let here : Lt x z = contains_each (Lt x) xs z o.0 c in let own : Lt x x = subst (λ w. Lt x w) (sym (e ∙ same)) here in lt_once x x own own)) (λ (later : Contains ys z). later)
      (contains_cases y z ys (there z (contains_there x z xs c)))

  -- two lists in order that contain the same are one
  one_order : (xs ys : List X) → Pairs Lt xs → Pairs Lt ys → ((z : X) → Contains xs z → Contains ys z) → ((z : X) → Contains ys z → Contains xs z) → xs ≡ ys
  one_order [] [] o p there back = refl
  one_order [] (y ∷ ys) o p there back = absurd (contains_nothing y (back y (contains_here y ys)))
  one_order (x ∷ xs) [] o p there back = absurd (contains_nothing x (there x (contains_here x xs)))
  one_order (x ∷ xs) (y ∷ ys) o p there back =
      let e : x ≡ y = one_first x y xs ys o p (there x (contains_here x xs)) (back y (contains_here y ys)) in
      let rest : xs ≡ ys = one_order xs ys o.1 p.1 (behind x y xs ys e o there) (behind y x ys xs (sym e) p back) in
      λ i. e i ∷ rest i

  -- there is one list of all in order
  pub same_in_order : (P Q : X → Type 0) → ((x : X) → P x → Q x) → ((x : X) → Q x → P x) → (xs ys : List X) → IsAllInOrder cmp P xs → IsAllInOrder cmp Q ys → xs ≡ ys
  same_in_order P Q there back xs ys a b =
      one_order xs ys a.order b.order (λ z c. b.all z (there z (contains_each P xs z a.each c))) (λ z c. a.all z (back z (contains_each Q ys z b.each c)))
