-- What a list contains.
use Rattle.std.proofs.Common.{◌≡◌, ◌<◌, List, [], ◌∷◌, Contains, ◌⊎◌, inl, inr, ⊎_elim, subst, arith}
use Rattle.std.proofs.lemmas.List.Elements.{Contains-append_left, Contains-append_right, Contains-append_cases}
use Rattle.std.proofs.lemmas.List.Elements.{Contains-push, Contains-push_cases, All-contains}
use Rattle.ss_text.specs.Texts.{IsReordering, nothing, head, swapped, chain}
use Rattle.ss_bso.proofs.Lists.{Each, All-from_Each}

pub contains_nothing : {X : Type 0} (x : X) → Contains [] x → ⊥
contains_nothing x c = let none : c.0 < 0 = c.1 in omega arith

pub contains_here : {X : Type 0} (x : X) (xs : List X) → Contains (x ∷ xs) x
contains_here x xs = Contains-append_left (x ∷ []) xs x (Contains-push [] x)

pub contains_there : {X : Type 0} (y x : X) (xs : List X) → Contains xs x → Contains (y ∷ xs) x
contains_there y x xs c = Contains-append_right (y ∷ []) xs x c

pub contains_one : {X : Type 0} (y x : X) → Contains (y ∷ []) x → y ≡ x
contains_one y x c = ⊎_elim (λ none. absurd (contains_nothing x none)) (λ e. e) (Contains-push_cases [] y x c)

pub contains_cases : {X : Type 0} (y x : X) (xs : List X) → Contains (y ∷ xs) x → (y ≡ x) ⊎ Contains xs x
contains_cases y x xs c = ⊎_elim (λ one. inl (contains_one y x one)) (λ later. inr later) (Contains-append_cases (y ∷ []) xs x c)

pub contains_each : {X : Type 0} (P : X → Type 0) (xs : List X) (x : X) → Each P xs → Contains xs x → P x
contains_each P xs x each c = All-contains P xs x (All-from_Each P xs each) c

-- the same by recursion on the list
abbrev Has : {X : Type 0} → X → List X → Type 0
Has z [] = ⊥
Has z (x ∷ xs) = (x ≡ z) ⊎ Has z xs

has : {X : Type 0} (z : X) (xs : List X) → Contains xs z → Has z xs
has z [] c = contains_nothing z c
has z (x ∷ xs) c = ⊎_elim (λ (e : x ≡ z). inl e) (λ (later : Contains xs z). inr (has z xs later)) (contains_cases x z xs c)

contained : {X : Type 0} (z : X) (xs : List X) → Has z xs → Contains xs z
contained z [] h = absurd h
contained z (x ∷ xs) h = ⊎_elim (λ (e : x ≡ z). subst (λ w. Contains (x ∷ xs) w) e (contains_here x xs)) (λ (later : Has z xs). contains_there x z xs (contained z xs later)) h

has-reordered : {X : Type 0} (z : X) {xs ys : List X} → IsReordering xs ys → Has z xs → Has z ys
has-reordered z nothing h = h
has-reordered z (head x r) h = ⊎_elim (λ e. inl e) (λ later. inr (has-reordered z r later)) h
has-reordered z (swapped x y xs) h = ⊎_elim (λ e. inr (inl e)) (λ later. ⊎_elim (λ e. inl e) (λ last. inr (inr last)) later) h
has-reordered z (chain r s) h = has-reordered z s (has-reordered z r h)

pub contains-reordered : {X : Type 0} (z : X) (xs ys : List X) → IsReordering xs ys → Contains xs z → Contains ys z
contains-reordered z xs ys r c = contained z ys (has-reordered z r (has z xs c))
