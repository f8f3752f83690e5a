-- Membership, and what filters, maps and finds keep.
use Rattle.std.specs.Prelude.{◌≡◌, ◌⊎◌, Bool, true, false, cond, List, [], ◌∷◌, ◌++◌, map, filter, find, Some}
use Rattle.std.specs.Prelude.{option_map, refl}
use Rattle.std.proofs.Common.{subst, sym, ap, ◌∙◌, inl, inr}
use Rattle.ss_text.specs.Texts.{IsReordering, nothing, head, swapped, chain}
use Rattle.ss_bso.specs.Lists.{Each}

-- x is an element
abbrev pub Among : {X : Type 0} → X → List X → Type 0
Among x [] = ⊥
Among x (y ∷ ys) = (x ≡ y) ⊎ Among x ys

module _ {X : Type 0} where
  pub among_each : (P : X → Type 0) (x : X) (xs : List X) → Each P xs → Among x xs → P x
  among_each P x [] e h = absurd h
  among_each P x (y ∷ ys) e (inl same) = subst P (sym same) e.0
  among_each P x (y ∷ ys) e (inr h) = among_each P x ys e.1 h

  pub each_among : (P : X → Type 0) (xs : List X) → ((x : X) → Among x xs → P x) → Each P xs
  each_among P [] h = tt
  each_among P (y ∷ ys) h = (h y (inl refl), each_among P ys (λ x a. h x (inr a)))

  pub among_reordered : (x : X) {xs ys : List X} → IsReordering xs ys → Among x xs → Among x ys
  among_reordered x nothing h = h
  among_reordered x (head y r) (inl e) = inl e
  among_reordered x (head y r) (inr h) = inr (among_reordered x r h)
  among_reordered x (swapped y z zs) (inl e) = inr (inl e)
  among_reordered x (swapped y z zs) (inr (inl e)) = inl e
  among_reordered x (swapped y z zs) (inr (inr h)) = inr (inr h)
  among_reordered x (chain r s) h = among_reordered x s (among_reordered x r h)

  -- what passes a filter
  pub filtered : (test : X → Bool) (x : X) (xs : List X) → Among x (filter test xs) → Among x xs × (test x ≡ true)
  filtered test x [] h = absurd h
  filtered test x (y ∷ ys) h =
      elim (test y) as (λ v. test y ≡ v → Among x (cond v (y ∷ filter test ys) (filter test ys)) → Among x (y ∷ ys) × (test x ≡ true)) [
        | true ↦ (λ e g. elim g [
          | inl same ↦ (inl same, ap test same ∙ e)
          | inr more ↦ let r = filtered test x ys more in (inr r.0, r.1)
        ])
        | false ↦ (λ e g. let r = filtered test x ys g in (inr r.0, r.1))
      ] refl h

  pub filters : (test : X → Bool) (x : X) (xs : List X) → Among x xs → test x ≡ true → Among x (filter test xs)
  filters test x [] h t = absurd h
  filters test x (y ∷ ys) (inl e) t = subst (λ v. Among x (cond v (y ∷ filter test ys) (filter test ys))) (sym t ∙ ap test e) (inl e)
  filters test x (y ∷ ys) (inr h) t =
      elim (test y) as (λ v. Among x (cond v (y ∷ filter test ys) (filter test ys))) [ true ↦ inr (filters test x ys h t) | false ↦ filters test x ys h t ]

  pub among_find : (p : X → Bool) (xs : List X) (x : X) → find p xs ≡ Some x → Among x xs
  among_find p [] x e = cc
  among_find p (y ∷ ys) x e =
      elim (p y) as (λ v. cond v (Some y) (find p ys) ≡ Some x → Among x (y ∷ ys))
      [ true ↦ (λ h. let same : x ≡ y = cc in inl same) | false ↦ (λ h. inr (among_find p ys x h)) ] e

  -- a filter within a filter
  pub filter_within : (p q : X → Bool) (xs : List X) → Each (λ (x : X). p x ≡ true → q x ≡ true) xs → filter p (filter q xs) ≡ filter p xs
  filter_within p q [] e = refl
  filter_within p q (x ∷ xs) e =
      elim (p x) as (λ v. p x ≡ v → filter p (cond (q x) (x ∷ filter q xs) (filter q xs)) ≡ cond v (x ∷ filter p xs) (filter p xs)) [
        | true ↦ (λ t. ap (λ v. filter p (cond v (x ∷ filter q xs) (filter q xs))) (e.0 t) ∙ ap (λ v. cond v (x ∷ filter p (filter q xs)) (filter p (filter q xs))) t ∙ ap (λ rest. x ∷ rest) (filter_within p q xs e.1))
        | false ↦ (λ t. dropped t (q x) ∙ filter_within p q xs e.1)
      ] refl
    where
      dropped : p x ≡ false → (v : Bool) → filter p (cond v (x ∷ filter q xs) (filter q xs)) ≡ filter p (filter q xs)
      dropped t true = ap (λ v. cond v (x ∷ filter p (filter q xs)) (filter p (filter q xs))) t
      dropped t false = refl

  pub filter_none : (p : X → Bool) (xs : List X) → Each (λ (x : X). p x ≡ false) xs → filter p xs ≡ []
  filter_none p [] e = refl
  filter_none p (x ∷ xs) e = ap (λ v. cond v (x ∷ filter p xs) (filter p xs)) e.0 ∙ filter_none p xs e.1

  pub filter_all : (p : X → Bool) (xs : List X) → ((x : X) → p x ≡ true) → filter p xs ≡ xs
  filter_all p [] h = refl
  filter_all p (x ∷ xs) h = ap (λ v. cond v (x ∷ filter p xs) (filter p xs)) (h x) ∙ ap (λ rest. x ∷ rest) (filter_all p xs h)

  pub filter_same : (p q : X → Bool) (xs : List X) → ((x : X) → p x ≡ q x) → filter p xs ≡ filter q xs
  filter_same p q [] h = refl
  filter_same p q (x ∷ xs) h = ap (λ rest. cond (p x) (x ∷ rest) rest) (filter_same p q xs h) ∙ ap (λ v. cond v (x ∷ filter q xs) (filter q xs)) (h x)

  pub filter_append : (p : X → Bool) (xs ys : List X) → filter p (xs ++ ys) ≡ filter p xs ++ filter p ys
  filter_append p [] ys = refl
  filter_append p (x ∷ xs) ys =
      elim (p x) as (λ v. cond v (x ∷ filter p (xs ++ ys)) (filter p (xs ++ ys)) ≡ cond v (x ∷ filter p xs) (filter p xs) ++ filter p ys)
      [ true ↦ ap (λ rest. x ∷ rest) (filter_append p xs ys) | false ↦ filter_append p xs ys ]

  pub append_none : (xs : List X) → xs ++ [] ≡ xs
  append_none [] = refl
  append_none (x ∷ xs) = ap (λ rest. x ∷ rest) (append_none xs)

  -- a find in a mapped list
  pub find_mapped : (p : X → Bool) (f : X → X) → ((x : X) → p (f x) ≡ p x) → (xs : List X) → find p (map f xs) ≡ option_map f (find p xs)
  find_mapped p f h [] = refl
  find_mapped p f h (x ∷ xs) =
      ap (λ v. cond v (Some (f x)) (find p (map f xs))) (h x)
      ∙ elim (p x) as (λ v. cond v (Some (f x)) (find p (map f xs)) ≡ option_map f (cond v (Some x) (find p xs))) [ true ↦ refl | false ↦ find_mapped p f h xs ]

module _ {X Y : Type 0} (f : X → Y) where
  pub among_map : (x : X) (xs : List X) → Among x xs → Among (f x) (map f xs)
  among_map x [] h = absurd h
  among_map x (y ∷ ys) (inl e) = inl (ap f e)
  among_map x (y ∷ ys) (inr h) = inr (among_map x ys h)

  pub map_among : (y : Y) (xs : List X) → Among y (map f xs) → (x : X) × Among x xs × (y ≡ f x)
  map_among y [] h = absurd h
  map_among y (x ∷ xs) (inl e) = (x, inl refl, e)
  map_among y (x ∷ xs) (inr h) = let r = map_among y xs h in (r.0, inr r.1, r.2)

  pub filter_map_of : (p : Y → Bool) (xs : List X) → filter p (map f xs) ≡ map f (filter (λ x. p (f x)) xs)
  filter_map_of p [] = refl
  filter_map_of p (x ∷ xs) =
      elim (p (f x)) as (λ v. cond v (f x ∷ filter p (map f xs)) (filter p (map f xs)) ≡ map f (cond v (x ∷ filter (λ z. p (f z)) xs) (filter (λ z. p (f z)) xs)))
      [ true ↦ ap (λ rest. f x ∷ rest) (filter_map_of p xs) | false ↦ filter_map_of p xs ]
