-- Passes beside desks, after a change of one place, after one more and after one less. Callers with several desks rest on these.
use Rattle.std.proofs.Common.{◌≡◌, ◌≢◌, ℕ, zero, suc, ◌+◌, ◌<◌, List, [], ◌∷◌, ◌++◌, length, length-append, set, get_or}
use Rattle.std.proofs.Common.{refl, ap, sym, ◌∙◌, subst, arith}
use Rattle.std.proofs.lemmas.List.{get_or-set_other}
use Rattle.std.proofs.lemmas.Grind.{get_or-set_at}
use mathlib.Core.Logic.{dite}
use native.Mathlib.Decide.{ℕ_discrete, dec_lt}
use mathlib.Core.Option.{some, some-ne-none}
use lib.ListN.{get_elem?}
use Rattle.ss_desk.specs.declared.desk.Desk.{Desk}
use Rattle.ss_desk.specs.declared.pass.RawPass.{RawPass}
use Rattle.ss_desk.specs.Desks.{view, IsPassOf, SameDesk}
use Rattle.ss_desk.specs.Passes.{AreOf, view_at, SameOthers}

module _ {X : Type 0} where
  pub get_left : (xs ys : List X) (j : ℕ) (d : X) → j < length xs → get_or (xs ++ ys) j d ≡ get_or xs j d
  get_left [] ys j d h = absurd (omega arith)
  get_left (x ∷ xs) ys zero d h = refl
  get_left (x ∷ xs) ys (suc j) d h = get_left xs ys j d (omega arith)

  pub get_last : (xs ys : List X) (y d : X) → get_or (xs ++ y ∷ ys) (length xs) d ≡ y
  get_last [] ys y d = refl
  get_last (x ∷ xs) ys y d = get_last xs ys y d

  pub last_long : (xs : List X) (y : X) → length (xs ++ y ∷ []) ≡ length xs + 1
  last_long xs y = length-append xs (y ∷ [])

pub at_left : {X : Type 0} (xs ys : List X) (i : ℕ) (x : X) → get_elem? xs i ≡ some x → get_elem? (xs ++ ys) i ≡ some x
at_left [] ys i x e = absurd (some-ne-none x (sym e))
at_left (y ∷ xs) ys zero x e = e
at_left (y ∷ xs) ys (suc i) x e = at_left xs ys i x e

pub at_last : {X : Type 0} (xs : List X) (x : X) → get_elem? (xs ++ x ∷ []) (length xs) ≡ some x
at_last [] x = refl
at_last (y ∷ xs) x = at_last xs x

pub there_is : {X : Type 0} (l : List X) (i : ℕ) → i < length l → (x : X) × (get_elem? l i ≡ some x)
there_is [] i h = absurd (omega arith)
there_is (x ∷ xs) zero h = (x, refl)
there_is (x ∷ xs) (suc i) h = there_is xs i (omega arith)

module _ {T F E : Type 0} where
  pub view_here : (l : List (RawPass T F E)) (i : ℕ) (p : RawPass T F E) → i < length l → view_at (set l i p) i ≡ view p
  view_here [] i p h = absurd (omega arith)
  view_here (x ∷ xs) zero p h = refl
  view_here (x ∷ xs) (suc i) p h = view_here xs i p (omega arith)

  pub view_else : (l : List (RawPass T F E)) (i j : ℕ) (p : RawPass T F E) → j ≢ i → view_at (set l i p) j ≡ view_at l j
  view_else [] i j p ne = refl
  view_else (x ∷ xs) zero zero p ne = absurd (ne refl)
  view_else (x ∷ xs) zero (suc j) p ne = refl
  view_else (x ∷ xs) (suc i) zero p ne = refl
  view_else (x ∷ xs) (suc i) (suc j) p ne = view_else xs i j p (λ e. ne (ap suc e))

  pub view_is : (l : List (RawPass T F E)) (i : ℕ) (d : RawPass T F E) → i < length l → view_at l i ≡ view (get_or l i d)
  view_is [] i d h = absurd (omega arith)
  view_is (x ∷ xs) zero d h = refl
  view_is (x ∷ xs) (suc i) d h = view_is xs i d (omega arith)

  pub length_set : (l : List (RawPass T F E)) (i : ℕ) (p : RawPass T F E) → length (set l i p) ≡ length l
  length_set [] i p = refl
  length_set (x ∷ xs) zero p = refl
  length_set (x ∷ xs) (suc i) p = ap suc (length_set xs i p)

  pub same_set : (l : List (RawPass T F E)) (i : ℕ) (p : RawPass T F E) → SameOthers i l (set l i p)
  same_set l i p = (length_set l i p, λ j ne. view_else l i j p ne)

  pub view_left : (xs ys : List (RawPass T F E)) (j : ℕ) → j < length xs → view_at (xs ++ ys) j ≡ view_at xs j
  view_left [] ys j h = absurd (omega arith)
  view_left (x ∷ xs) ys zero h = refl
  view_left (x ∷ xs) ys (suc j) h = view_left xs ys j (omega arith)

  pub view_last : (xs ys : List (RawPass T F E)) (p : RawPass T F E) → view_at (xs ++ p ∷ ys) (length xs) ≡ view p
  view_last [] ys p = refl
  view_last (x ∷ xs) ys p = view_last xs ys p

module _ {T F E A R : Type 0} (desks : List (Desk T F E A R)) where
  pub are_set : (qs : List (RawPass T F E)) (i : ℕ) (old p : RawPass T F E) → AreOf desks qs → i < length desks → old ≡ get_or qs i old → SameDesk old p → AreOf desks (set qs i p)
  are_set qs i old p h lt is beside = (
    length_set qs i p ∙ h.0,
    λ j d q l. dite (ℕ_discrete j i)
        (λ e. let a : get_or (set qs i p) j q ≡ p = get_or-set_at qs i j p q e (omega (arith, h.0)) in
        subst (λ (x : RawPass T F E). IsPassOf (get_or desks j d) x) (sym a)
        (beside ∙ ap (λ (x : RawPass T F E). x.seat.table_id) is ∙ subst (λ (k : ℕ). IsPassOf (get_or desks k d) (get_or qs i old)) (sym e) (h.1 i d old lt)))
        (λ ne. subst (λ (x : RawPass T F E). IsPassOf (get_or desks j d) x) (sym (get_or-set_other qs i j p q ne)) (h.1 j d q l)),
  )

module _ {T F E A R : Type 0} where
  pub are_but : (ds : List (Desk T F E A R)) (d : Desk T F E A R) (ps : List (RawPass T F E)) (p : RawPass T F E) → AreOf (ds ++ d ∷ []) (ps ++ p ∷ []) → AreOf ds ps × IsPassOf d p
  are_but ds d ps p h =
      let same : length ps ≡ length ds = omega (arith, h.0, last_long ds d, last_long ps p) in (
        (
          same,
          λ i e q l. subst (λ (x : Desk T F E A R). IsPassOf x (get_or ps i q)) (get_left ds (d ∷ []) i e l)
              (subst (λ (x : RawPass T F E). IsPassOf (get_or (ds ++ d ∷ []) i e) x) (get_left ps (p ∷ []) i q (omega (arith, same))) (h.1 i e q (omega (arith, last_long ds d)))),
        ),
        subst (λ (x : Desk T F E A R). IsPassOf x p) (get_last ds [] d d)
            (subst (λ (x : RawPass T F E). IsPassOf (get_or (ds ++ d ∷ []) (length ds) d) x) (ap (λ n. get_or (ps ++ p ∷ []) n p) (sym same) ∙ get_last ps [] p p) (h.1 (length ds) d p (omega (arith, last_long ds d)))),
      )

  pub are_more : (ds : List (Desk T F E A R)) (d : Desk T F E A R) (ps : List (RawPass T F E)) (p : RawPass T F E) → AreOf ds ps → IsPassOf d p → AreOf (ds ++ d ∷ []) (ps ++ p ∷ [])
  are_more ds d ps p h here = (
    last_long ps p ∙ (ap (λ n. n + 1) h.0 ∙ sym (last_long ds d)),
    λ i e q l. dite (dec_lt i (length ds))
        (λ less. subst (λ (x : Desk T F E A R). IsPassOf x (get_or (ps ++ p ∷ []) i q)) (sym (get_left ds (d ∷ []) i e less))
        (subst (λ (x : RawPass T F E). IsPassOf (get_or ds i e) x) (sym (get_left ps (p ∷ []) i q (omega (arith, h.0)))) (h.1 i e q less)))
        (λ more. let k : i ≡ length ds = omega (arith, last_long ds d) in
        subst (λ (x : Desk T F E A R). IsPassOf x (get_or (ps ++ p ∷ []) i q)) (sym (ap (λ n. get_or (ds ++ d ∷ []) n e) k ∙ get_last ds [] d e))
        (subst (λ (x : RawPass T F E). IsPassOf d x) (sym (ap (λ n. get_or (ps ++ p ∷ []) n q) (k ∙ sym h.0) ∙ get_last ps [] p q)) here)),
  )
