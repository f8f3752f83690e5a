-- The pieces of a path without an empty one at their end.
use Rattle.std.proofs.Common.{◌≡◌, ◌≢◌, ℕ, zero, suc, ◌+◌, ◌-◌, List, [], ◌∷◌, length, map, take, get_or, ◌==◌, true}
use Rattle.std.proofs.Common.{false, cond, sym, ap, arith}
use Rattle.ss_route.specs.Targets.{without_empty_end}

empty_last : {X : Type 0} (f : X → List ℕ) (xs : List X) (n : ℕ) (d : X) → length xs ≡ n + 1 → (length (f (get_or xs n d)) == 0) ≡ true
    → map f (take n xs) ≡ without_empty_end (map f xs)
empty_last f [] n d size h = let never : ⊥ = omega arith in absurd never
empty_last f (x ∷ []) zero d size h = sym (ap (λ test. cond test [] (f x ∷ [])) h)
empty_last f (x ∷ []) (suc n) d size h = let never : ⊥ = omega arith in absurd never
empty_last f (x ∷ y ∷ xs) zero d size h = let never : ⊥ = omega arith in absurd never
empty_last f (x ∷ y ∷ xs) (suc n) d size h = ap (λ pieces. f x ∷ pieces) (empty_last f (y ∷ xs) n d (omega arith) h)

full_last : {X : Type 0} (f : X → List ℕ) (xs : List X) (n : ℕ) (d : X) → length xs ≡ n + 1 → (length (f (get_or xs n d)) == 0) ≡ false
    → map f xs ≡ without_empty_end (map f xs)
full_last f [] n d size h = let never : ⊥ = omega arith in absurd never
full_last f (x ∷ []) zero d size h = sym (ap (λ test. cond test [] (f x ∷ [])) h)
full_last f (x ∷ []) (suc n) d size h = let never : ⊥ = omega arith in absurd never
full_last f (x ∷ y ∷ xs) zero d size h = let never : ⊥ = omega arith in absurd never
full_last f (x ∷ y ∷ xs) (suc n) d size h = ap (λ pieces. f x ∷ pieces) (full_last f (y ∷ xs) n d (omega arith) h)

-- a last piece that is empty goes
pub empty_end : {X : Type 0} (f : X → List ℕ) (xs : List X) (d : X) → length xs ≢ 0 → (length (f (get_or xs (length xs - 1) d)) == 0) ≡ true
    → map f (take (length xs - 1) xs) ≡ without_empty_end (map f xs)
empty_end f xs d some h = empty_last f xs (length xs - 1) d (omega arith) h

-- another last piece stays
pub full_end : {X : Type 0} (f : X → List ℕ) (xs : List X) (d : X) → length xs ≢ 0 → (length (f (get_or xs (length xs - 1) d)) == 0) ≡ false
    → map f xs ≡ without_empty_end (map f xs)
full_end f xs d some h = full_last f xs (length xs - 1) d (omega arith) h

-- and no pieces are none
pub no_end : {X : Type 0} (f : X → List ℕ) (xs : List X) → length xs ≡ 0 → map f xs ≡ without_empty_end (map f xs)
no_end f [] none = λ i. []
no_end f (x ∷ xs) none = let never : ⊥ = omega arith in absurd never
