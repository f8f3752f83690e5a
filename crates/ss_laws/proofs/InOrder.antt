-- The sorted list has the same elements, and they stand in order.
use Rattle.std.specs.Prelude.{◌≡◌, Bool, true, false, cond, List, [], ◌∷◌, refl}
use Rattle.ss_text.specs.Texts.{IsReordering, nothing, head, swapped, chain, list_with, sorted}
use Rattle.ss_bso.specs.declared.rows.Row.{Row}
use Rattle.ss_query.specs.declared.requests.Sort.{Sort}
use Rattle.ss_query.specs.Answer.{comes_before}
use Rattle.ss_query.proofs.Orders.{row_total}
use Rattle.ss_bso.proofs.Lists.{Each-imp, AllPairs-from_Pairs}
use Rattle.ss_bso.proofs.Reordering.{reordered-refl, Each-reordered}
use Rattle.ss_bso.specs.Lists.{Pairs}
use Rattle.std.specs.Cmp.{IsStrictWeakOrder}
use Rattle.std.proofs.lemmas.List.Sorted.{ranks_by}
use Rattle.std.specs.Prelude.{IsFalse}
use Rattle.ss_laws.specs.Laws.{SortLaw}

reordered-placed : {X : Type 0} (before : X → X → Bool) (x : X) (ys : List X) → IsReordering (x ∷ ys) (list_with before x ys)
reordered-placed before x [] = head x nothing
reordered-placed before x (y ∷ ys) =
    elim (before y x) as (λ v. IsReordering (x ∷ y ∷ ys) (cond v (y ∷ list_with before x ys) (x ∷ y ∷ ys)))
    [ true ↦ chain (swapped x y ys) (head y (reordered-placed before x ys)) | false ↦ reordered-refl (x ∷ y ∷ ys) ]

pub reordered-sorted : {X : Type 0} (before : X → X → Bool) (xs : List X) → IsReordering xs (sorted before xs)
reordered-sorted before [] = nothing
reordered-sorted before (x ∷ xs) = chain (head x (reordered-sorted before xs)) (reordered-placed before x (sorted before xs))

-- the second doesn't come before the first
abbrev pub NotAfter : {X : Type 0} → (X → X → Bool) → X → X → Type 0
NotAfter before x y = IsFalse (before y x)

module _ {X : Type 0} (before : X → X → Bool) (order : IsStrictWeakOrder before) where
  in_order-placed : (x : X) (ys : List X) → Pairs (NotAfter before) ys → Pairs (NotAfter before) (list_with before x ys)
  in_order-placed x [] e = (tt, tt)
  in_order-placed x (y ∷ ys) e =
      elim (before y x) as (λ v. before y x ≡ v → Pairs (NotAfter before) (cond v (y ∷ list_with before x ys) (x ∷ y ∷ ys))) [
        | true ↦ (λ t. (Each-reordered (NotAfter before y) (reordered-placed before x ys) (order.one_way y x t, e.0), in_order-placed x ys e.1))
        | false ↦ (λ t. ((t, Each-imp (NotAfter before y) (NotAfter before x) (λ z h. order.chain z y x h t) ys e.0), e))
      ] refl

  pub in_order-sorted : (xs : List X) → Pairs (NotAfter before) (sorted before xs)
  in_order-sorted [] = tt
  in_order-sorted (x ∷ xs) = in_order-placed x (sorted before xs) (in_order-sorted xs)

pub sort_law : (sort : Sort) (rows : List Row) → SortLaw sort rows
sort_law sort rows = record {
  same = reordered-sorted (comes_before sort) rows;
  in_order = AllPairs-from_Pairs (NotAfter (comes_before sort)) (sorted (comes_before sort) rows)
      (in_order-sorted (comes_before sort) (ranks_by (row_total sort) (λ (row : Row). row)) rows);
}
