-- Texts that are written piece by piece.
use Rattle.std.proofs.Common.{◌≡◌, ℕ, ◌+◌, ◌-◌, ◌<◌, ◌≤◌, List, [], ◌∷◌, ◌++◌, length, map, flat_map, take, drop}
use Rattle.std.proofs.Common.{get_or, sym, ap, subst, ◌∙◌, arith, append_assoc, append-nil, codes}
use Rattle.std.proofs.lemmas.Grind.{flat_map-append}
use Rattle.std.proofs.lemmas.List.{take_more, take_all}
use Rattle.std.specs.List.{join_with_byte}
use Rattle.std.specs.Prelude.{Result, Ok, Err, OnOk}

pub append_append : (taken s t : List ℕ) → (taken ++ s) ++ t ≡ taken ++ (s ++ t)
append_append taken s t = append_assoc taken s t

-- the first text, and then the others with a comma before each
pub joined-cons : {X : Type 0} (text : X → List ℕ) (x : X) (xs : List X)
    → join_with_byte 0x2c (map text (x ∷ xs)) ≡ text x ++ flat_map (λ y. codes "," ++ text y) xs
joined-cons text x [] = sym (append-nil (text x))
joined-cons text x (y ∷ xs) = ap (λ rest. text x ++ 0x2c ∷ rest) (joined-cons text y xs)

-- one more text behind those so far
pub one_more : {X : Type 0} (text : X → List ℕ) (taken : List ℕ) (xs : List X) (i : ℕ) (d : X) → i < length xs
    → (taken ++ flat_map text (take i xs)) ++ text (get_or xs i d) ≡ taken ++ flat_map text (take (i + 1) xs)
one_more text taken xs i d here =
    let last : flat_map text (get_or xs i d ∷ []) ≡ text (get_or xs i d) = append-nil (text (get_or xs i d)) in
    let all : flat_map text (take (i + 1) xs) ≡ flat_map text (take i xs) ++ text (get_or xs i d) =
    ap (flat_map text) (take_more xs i d here) ∙ flat_map-append text (take i xs) (get_or xs i d ∷ []) ∙ ap (λ t. flat_map text (take i xs) ++ t) last in
    append_append taken _ _ ∙ sym (ap (λ t. taken ++ t) all)

-- one text behind another
pub both : (old mid new : List ℕ) (s t : List ℕ) → mid ≡ old ++ s → new ≡ mid ++ t → new ≡ old ++ (s ++ t)
both old mid new s t first second = second ∙ ap (λ taken. taken ++ t) first ∙ append_append old s t

-- the same, where the second may fail
pub both_or_err : {A E : Type 0} (r : Result A E) (old mid new : List ℕ) (s t : List ℕ) → mid ≡ old ++ s → OnOk r (new ≡ mid ++ t)
    → OnOk r (new ≡ old ++ (s ++ t))
both_or_err (Ok x) old mid new s t first second = both old mid new s t first second
both_or_err (Err e) old mid new s t first second = tt

-- no text at all
pub joined_none : {X : Type 0} (text : X → List ℕ) (taken : List ℕ) (xs : List X) → length xs ≡ 0 → taken ≡ taken ++ (join_with_byte 0x2c (map text xs))
joined_none text taken [] none = sym (append-nil taken)
joined_none text taken (x ∷ xs) none = let never : ⊥ = omega arith in absurd never

-- the first text and the others
pub joined_first : {A E X : Type 0} (r : Result A E) (text : X → List ℕ) (old mid new : List ℕ) (xs : List X) (y d : X) → 1 ≤ length xs
    → y ≡ get_or xs 0 d → mid ≡ old ++ text y → OnOk r (new ≡ mid ++ (flat_map (λ y. codes "," ++ text y) (take (length xs - 1) (drop 1 xs))))
    → OnOk r (new ≡ old ++ (join_with_byte 0x2c (map text xs)))
joined_first r text old mid new [] y d some is first rest = let never : ⊥ = omega arith in absurd never
joined_first r text old mid new (x ∷ xs) y d some is first rest =
    let begins : mid ≡ old ++ text x = first ∙ ap (λ z. old ++ text z) is in
    let all : take (length (x ∷ xs) - 1) xs ≡ xs = take_all _ xs (omega arith) in
    let others = subst (λ ys. OnOk r (new ≡ mid ++ (flat_map (λ z. codes "," ++ text z) ys))) all rest in
    rw (joined-cons text x xs) (both_or_err r old mid new (text x) (flat_map (λ z. codes "," ++ text z) xs) begins others)
