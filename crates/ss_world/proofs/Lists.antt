-- Lists that are read by `slice_get`, and pages of a list.
use Rattle.std.proofs.Common.{◌≡◌, ◌≢◌, ◌⊎◌, ℕ, zero, suc, ◌+◌, ◌≤◌, List, [], ◌∷◌, ◌++◌, length, take, drop, set}
use Rattle.std.proofs.Common.{slice_get, Some, sym, refl, ap, ◌∙◌, inl, inr, arith}
use Rattle.std.proofs.lemmas.Option.{none-some, same_Some}
use Rattle.std.proofs.lemmas.List.{take-append-drop, take-take, drop-take, take_all}

module _ {V : Type 0} where
  -- what stands somewhere after a change at i
  pub at_set : (l : List V) (i j : ℕ) (w u : V) → slice_get (set l i w) j ≡ Some u → ((j ≡ i) × (u ≡ w)) ⊎ ((j ≢ i) × (slice_get l j ≡ Some u))
  at_set [] i j w u e = absurd (none-some u e)
  at_set (x ∷ xs) zero zero w u e = inl (refl, sym (same_Some w u e))
  at_set (x ∷ xs) zero (suc j) w u e = inr ((λ q. cc), e)
  at_set (x ∷ xs) (suc i) zero w u e = inr ((λ q. cc), e)
  at_set (x ∷ xs) (suc i) (suc j) w u e = elim (at_set xs i j w u e) [
    | inl h ↦ inl (ap suc h.0, h.1)
    | inr h ↦ inr ((λ q. h.0 (let r : j ≡ i = omega arith in r)), h.1)
  ]

  -- a page further
  pub page_more : (l : List V) (i : ℕ) → take i l ++ take 1000 (drop i l) ≡ take (i + 1000) l
  page_more l i = let e = drop-take i 1000 l in let f = take-append-drop i (take (i + 1000) l) in let g = take-take i (i + 1000) l (omega arith) in cc

  pub page_last : (l : List V) (i : ℕ) → length l ≤ i + 1000 → take i l ++ take 1000 (drop i l) ≡ l
  page_last l i h = page_more l i ∙ take_all (i + 1000) l h
