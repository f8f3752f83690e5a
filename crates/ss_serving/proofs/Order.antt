-- What a query filters and orders is the ordered list, filtered.
use Rattle.std.specs.Prelude.{◌≡◌, Bool, true, false, cond, List, [], ◌∷◌, filter, refl}
use Rattle.std.proofs.Common.{sym, ap, ◌∙◌}
use Rattle.std.specs.Cmp.{IsStrictWeakOrder}
use Rattle.ss_text.specs.Texts.{list_with, sorted}
use Rattle.ss_bso.specs.Lists.{Each, Pairs}
use Rattle.ss_bso.proofs.Lists.{Each-imp, Each-filter}
use Rattle.ss_laws.proofs.InOrder.{NotAfter}
use Rattle.ss_laws.proofs.InOrder.{in_order-sorted}

module _ {X : Type 0} (before : X → X → Bool) (order : IsStrictWeakOrder before) (test : X → Bool) where
  placed_first : (x : X) (ys : List X) → Each (NotAfter before x) ys → list_with before x ys ≡ x ∷ ys
  placed_first x [] e = refl
  placed_first x (y ∷ ys) e = ap (λ v. cond v (y ∷ list_with before x ys) (x ∷ y ∷ ys)) e.0

  last : (x z : X) (ws : List X) → before z x ≡ true → (s t : Bool) → cond t (z ∷ cond s (list_with before x ws) ws) (cond s (list_with before x ws) ws) ≡ cond s (list_with before x (cond t (z ∷ ws) ws)) (cond t (z ∷ ws) ws)
  last x z ws q true true = sym (ap (λ v. cond v (z ∷ list_with before x ws) (x ∷ z ∷ ws)) q)
  last x z ws q true false = refl
  last x z ws q false true = refl
  last x z ws q false false = refl

  filter_placed : (x : X) (ys : List X) → Pairs (NotAfter before) ys → filter test (list_with before x ys) ≡ cond (test x) (list_with before x (filter test ys)) (filter test ys)
  filter_placed x [] h = refl
  filter_placed x (z ∷ zs) h =
      elim (before z x) as (λ v. before z x ≡ v → filter test (cond v (z ∷ list_with before x zs) (x ∷ z ∷ zs)) ≡ cond (test x) (list_with before x (filter test (z ∷ zs))) (filter test (z ∷ zs))) [
        | true ↦ (λ q. ap (λ w. cond (test z) (z ∷ w) w) (filter_placed x zs h.1) ∙ last x z (filter test zs) q (test x) (test z))
        | false ↦ (λ q.
            let all : Each (NotAfter before x) (z ∷ zs) = (q, Each-imp (NotAfter before z) (NotAfter before x) (λ y e. order.chain y z x e q) zs h.0) in
            ap (λ w. cond (test x) w (filter test (z ∷ zs))) (sym (placed_first x (filter test (z ∷ zs)) (Each-filter (NotAfter before x) test (z ∷ zs) all))))
      ] refl

  pub filter_sorted : (xs : List X) → filter test (sorted before xs) ≡ sorted before (filter test xs)
  filter_sorted [] = refl
  filter_sorted (x ∷ xs) =
      filter_placed x (sorted before xs) (in_order-sorted before order xs)
      ∙ ap (λ ws. cond (test x) (list_with before x ws) ws) (filter_sorted xs)
      ∙ elim (test x) as (λ v. cond v (list_with before x (sorted before (filter test xs))) (sorted before (filter test xs)) ≡ sorted before (cond v (x ∷ filter test xs) (filter test xs))) [ true ↦ refl | false ↦ refl ]
