-- Between the library's permutations and `IsReordering`, and what a sort gives.
use Rattle.std.specs.Prelude.{◌≡◌, ℕ, zero, suc, ◌+◌, ◌<◌, Bool, true, false, cond, List, [], ◌∷◌, length, get_or, set}
use Rattle.std.specs.Prelude.{swap, IsPermutation, IsSortedBy, refl}
use Rattle.std.proofs.Common.{subst, sym, ap, ◌∙◌, arith}
use Rattle.std.proofs.lemmas.List.Sorted.{IsPermutation-keeps}
use Rattle.ss_text.specs.Texts.{IsReordering, head, swapped, chain, list_with, sorted}
use Rattle.ss_bso.proofs.Lists.{Pairs}
use Rattle.ss_bso.proofs.Reordering.{reordered-refl, Ranked, sorted-reordered}

-- the first element and a later one in each other's place
first_moved : {X : Type 0} (x d : X) (xs : List X) (j : ℕ) → j < length xs → IsReordering (x ∷ xs) (get_or xs j d ∷ set xs j x)
first_moved x d [] j lt = absurd (omega arith)
first_moved x d (y ∷ ys) zero lt = swapped x y ys
first_moved x d (y ∷ ys) (suc j) lt = chain (swapped x y ys) (chain (head y (first_moved x d ys j (omega arith))) (swapped y (get_or ys j d) (set ys j x)))

two_moved : {X : Type 0} (d : X) (xs : List X) (i j : ℕ) → i < length xs → j < length xs → IsReordering xs (set (set xs i (get_or xs j d)) j (get_or xs i d))
two_moved d [] i j l m = absurd (omega arith)
two_moved d (x ∷ xs) zero zero l m = reordered-refl (x ∷ xs)
two_moved d (x ∷ xs) zero (suc j) l m = first_moved x d xs j (omega arith)
two_moved d (x ∷ xs) (suc i) zero l m = first_moved x d xs i (omega arith)
two_moved d (x ∷ xs) (suc i) (suc j) l m = head x (two_moved d xs i j (omega arith) (omega arith))

reordered-swap : {X : Type 0} (xs : List X) (i j : ℕ) → i < length xs → j < length xs → IsReordering xs (swap xs i j)
reordered-swap [] i j l m = absurd (omega arith)
reordered-swap (x ∷ xs) i j l m = two_moved x (x ∷ xs) i j l m

pub reordered-from_IsPermutation : {X : Type 0} (xs ys : List X) → IsPermutation xs ys → IsReordering xs ys
reordered-from_IsPermutation {X} xs ys h =
    IsPermutation-keeps xs (λ (zs : List X). IsReordering xs zs) (reordered-refl xs) (λ zs i j l m r. chain r (reordered-swap zs i j l m)) ys h

-- a list in order is its own sorted list
sorted-in_order : {X : Type 0} (before : X → X → Bool) (xs : List X) → IsSortedBy before xs → sorted before xs ≡ xs
sorted-in_order before [] h = refl
sorted-in_order before (x ∷ []) h = refl
sorted-in_order before (x ∷ y ∷ xs) h =
    ap (λ rest. list_with before x rest) (sorted-in_order before (y ∷ xs) (λ k d low lt.
    let next : suc k + 1 ≡ suc (k + 1) = omega arith in
    subst (λ n. before (get_or (x ∷ y ∷ xs) n d) (get_or (y ∷ xs) k d) ≡ false) next (h (suc k) d (omega arith) (omega arith))))
    ∙ ap (λ v. cond v (y ∷ list_with before x xs) (x ∷ y ∷ xs)) (h 0 x (omega arith) (omega arith))

-- what a sort leaves is the sorted list, where the order is strict on the elements
pub sorted_is : {X : Type 0} (before : X → X → Bool) → ((x y z : X) → before x y ≡ true → before y z ≡ true → before x z ≡ true) → (xs ys : List X)
    → IsPermutation xs ys → IsSortedBy before ys → Pairs (Ranked before) xs → ys ≡ sorted before xs
sorted_is before through xs ys h up e =
    sym (sorted-in_order before ys up) ∙ sym (sorted-reordered before through (reordered-from_IsPermutation xs ys h) e)
