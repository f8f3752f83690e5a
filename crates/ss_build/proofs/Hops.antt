-- Steps along proposed parents are hops along their places.
use Rattle.std.proofs.Common.{◌≡◌, ℕ, zero, suc, ◌<◌, ◌≤◌, ◌⊎◌, ◌↔◌, inl, inr, List, [], ◌∷◌, length, get_or, Bool}
use Rattle.std.proofs.Common.{true, false, refl, sym, ap, ◌∙◌, arith}
use Rattle.std.proofs.Math.ListN.{get_or-eq_default}
use Rattle.std.proofs.lemmas.Bool.{cases_lt, false≢true}
use Rattle.std.proofs.lemmas.List.{get_or_default}
use Rattle.ss_build.specs.Marks.{next_at, hops, AreCircles}
use Rattle.ss_build.specs.Places.{IsNext}
use Rattle.ss_build.specs.Built.{comes_back, ids, proposed_parents}
use Rattle.ss_build.specs.declared.claims.Claim.{Claim}
use Rattle.ss_record.specs.Ids.{Apart, has, places}
use Rattle.ss_tree.specs.Trees.{steps}
use Rattle.ss_record.proofs.IdLists.{has-head, has-tail, Apart-head, Apart-tail}
use Rattle.ss_build.proofs.Items.{AreClaims, places_no_root}
use Rattle.ss_build.proofs.Valid.{proposed_none, length-ids}
use Rattle.ss_build.proofs.Bounded.{comes_back_is}
use Rattle.ss_build.proofs.Seats.{has_at}

same_place : (xs : List (List ℕ)) (i j : ℕ) (d : List ℕ) → Apart xs → i < length xs → j < length xs → get_or xs i d ≡ get_or xs j d → i ≡ j
same_place [] i j d a l m e = absurd (omega arith)
same_place (x ∷ xs) zero zero d a l m e = refl
same_place (x ∷ xs) zero (suc j) d a l m e = absurd (false≢true (sym (Apart-head x xs a) ∙ (ap (λ w. has w xs) e ∙ has_at xs j d (omega arith))))
same_place (x ∷ xs) (suc i) zero d a l m e = absurd (false≢true (sym (Apart-head x xs a) ∙ (ap (λ w. has w xs) (sym e) ∙ has_at xs i d (omega arith))))
same_place (x ∷ xs) (suc i) (suc j) d a l m e = ap suc (same_place xs i j d (Apart-tail x xs a) (omega arith) (omega arith) e)

pub equal_bools : (a b : Bool) → (a ≡ true → b ≡ true) → (b ≡ true → a ≡ true) → a ≡ b
equal_bools true b f g = sym (f refl)
equal_bools false true f g = g refl
equal_bools false false f g = refl

module _ (es : List Claim) (a : AreClaims es) (next : List ℕ) (n : IsNext es next) where
  id_at : ℕ → List ℕ
  id_at i = get_or (ids es) i places

  sizes : length (ids es) ≡ length next
  sizes = length-ids es ∙ sym n.same_length

  one_step : (i : ℕ) → proposed_parents es (id_at i) ≡ id_at (next_at next i)
  unfolding id_at
  one_step i = go (cases_lt i (length next))
    where
      go : (i < length next) ⊎ (length next ≤ i) → proposed_parents es (get_or (ids es) i places) ≡ get_or (ids es) (next_at next i) places
      go (inl l) = n.each i l ∙ ap (λ k. get_or (ids es) k places) (get_or_default next i 0 (length next) l)
      go (inr l) =
          let s : length (ids es) ≡ length next = sizes in
          let top : get_or (ids es) i places ≡ places = get_or-eq_default (ids es) places (omega arith) in
          let end : get_or (ids es) (next_at next i) places ≡ places = ap (λ k. get_or (ids es) k places) (get_or-eq_default next (length next) l) ∙ get_or-eq_default (ids es) places (omega arith) in
          ap (proposed_parents es) top ∙ (proposed_none es places places_no_root a.no_places ∙ sym end)

  many_steps : (k i : ℕ) → steps (proposed_parents es) k (id_at i) ≡ id_at (hops next k i)
  unfolding steps hops
  many_steps zero i = refl
  many_steps (suc k) i = ap (steps (proposed_parents es) k) (one_step i) ∙ many_steps k (next_at next i)

  same_at : (i j : ℕ) → i < length next → id_at j ≡ id_at i → j ≡ i
  unfolding id_at
  same_at i j l e = go (cases_lt j (length next))
    where
      go : (j < length next) ⊎ (length next ≤ j) → j ≡ i
      go (inl m) = let s : length (ids es) ≡ length next = sizes in same_place (ids es) j i places a.apart (omega arith) (omega arith) e
      go (inr m) =
          let s : length (ids es) ≡ length next = sizes in
          let top : get_or (ids es) j places ≡ places = get_or-eq_default (ids es) places (omega arith) in
          absurd (false≢true (sym a.no_places ∙ (ap (λ w. has w (ids es)) (sym top ∙ e) ∙ has_at (ids es) i places (omega arith))))

  pub circles_told : (circles : List Bool) → AreCircles next circles → (i : ℕ) → i < length next → get_or circles i false ≡ comes_back (proposed_parents es) (length es) (get_or (ids es) i places)
  unfolding id_at hops steps
  circles_told circles r i l = equal_bools (get_or circles i false) (comes_back (proposed_parents es) (length es) (get_or (ids es) i places)) down up
    where
      is : (comes_back (proposed_parents es) (length es) (get_or (ids es) i places) ≡ true) ↔ ((k : ℕ) × (steps (proposed_parents es) (suc k) (get_or (ids es) i places) ≡ get_or (ids es) i places))
      is = comes_back_is es a (get_or (ids es) i places) (has_at (ids es) i places (let s : length (ids es) ≡ length next = sizes in omega arith))

      down : get_or circles i false ≡ true → comes_back (proposed_parents es) (length es) (get_or (ids es) i places) ≡ true
      down h = let k = (r.each i l).0 h in is.1 (k.0, many_steps (suc k.0) i ∙ ap (λ w. get_or (ids es) w places) k.1)

      up : comes_back (proposed_parents es) (length es) (get_or (ids es) i places) ≡ true → get_or circles i false ≡ true
      up h = let k = is.0 h in (r.each i l).1 (k.0, same_at i (hops next k.0 (next_at next i)) l (sym (many_steps (suc k.0) i) ∙ k.1))
