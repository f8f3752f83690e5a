-- Lists of ids: membership after a filter, in first appearances, in order; walks.
use Rattle.std.proofs.Common.{◌≡◌, ◌≢◌, ℕ, List, [], ◌∷◌, ◌++◌, Bool, true, false, not, cond, ◌&&◌, ◌||◌, refl, sym, ap}
use Rattle.std.proofs.Common.{ap₂, ◌∙◌, filter, bytes_eq}
use Rattle.std.proofs.lemmas.Bool.{or_parts}
use Rattle.std.proofs.lemmas.Slice.Eq.{bytes_eq-Decides}
use Rattle.ss_text.specs.Texts.{list_with}
use Rattle.ss_record.specs.Ids.{has, Apart, firsts, before, by_id}
use Rattle.ss_text.proofs.Basics.{and_false, bytes_eq-sym, same_text}

pub bytes_eq-refl : (x : List ℕ) → bytes_eq x x ≡ true
bytes_eq-refl x = (bytes_eq-Decides x x).1 refl

pub bytes_eq-apart : (x y : List ℕ) → x ≢ y → bytes_eq x y ≡ false
bytes_eq-apart x y ne = go (bytes_eq x y) refl
  where
    go : (b : Bool) → bytes_eq x y ≡ b → b ≡ false
    go true e = absurd (ne (same_text x y e))
    go false e = refl

-- ---- Booleans

pub and-true : (b : Bool) → (b && true) ≡ b
and-true true = refl
and-true false = refl

pub or-assoc : (a b c : Bool) → ((a || b) || c) ≡ (a || (b || c))
or-assoc true b c = refl
or-assoc false b c = refl

-- ---- has

pub has-nil : (x : List ℕ) → has x [] ≡ false
unfolding has
has-nil x = refl

pub has-cons : (x y : List ℕ) (ys : List (List ℕ)) → has x (y ∷ ys) ≡ (bytes_eq x y || has x ys)
unfolding has
has-cons x y ys = refl

pub has-head : (x : List ℕ) (ys : List (List ℕ)) → has x (x ∷ ys) ≡ true
has-head x ys = has-cons x x ys ∙ ap (λ b. b || has x ys) (bytes_eq-refl x)

pub has-tail : (x y : List ℕ) (ys : List (List ℕ)) → has x ys ≡ true → has x (y ∷ ys) ≡ true
has-tail x y ys h = has-cons x y ys ∙ go (bytes_eq x y)
  where
    go : (b : Bool) → (b || has x ys) ≡ true
    go true = refl
    go false = h

pub has-append : (x : List ℕ) (ys zs : List (List ℕ)) → has x (ys ++ zs) ≡ (has x ys || has x zs)
unfolding has
has-append x [] zs = refl
has-append x (y ∷ ys) zs = ap (λ c. bytes_eq x y || c) (has-append x ys zs) ∙ sym (or-assoc (bytes_eq x y) (has x ys) (has x zs))

pub has-filter : (p : List ℕ → Bool) (x : List ℕ) (ys : List (List ℕ)) → has x (filter p ys) ≡ (has x ys && p x)
has-filter p x [] = has-nil x ∙ ap (λ b. b && p x) (sym (has-nil x))
has-filter p x (y ∷ ys) = go (p y) refl (bytes_eq x y) refl (has-filter p x ys) ∙ ap (λ b. b && p x) (sym (has-cons x y ys))
  where
    rest : List (List ℕ)
    rest = filter p ys

    go : (b : Bool) → p y ≡ b → (c : Bool) → bytes_eq x y ≡ c → has x rest ≡ (has x ys && p x) → has x (cond b (y ∷ rest) rest) ≡ ((c || has x ys) && p x)
    go true e true f ih = has-cons x y rest ∙ (ap (λ b. b || has x rest) f ∙ sym (ap p (same_text x y f) ∙ e))
    go true e false f ih = has-cons x y rest ∙ (ap (λ b. b || has x rest) f ∙ ih)
    go false e true f ih = let px : p x ≡ false = ap p (same_text x y f) ∙ e in ih ∙ (ap (λ b. has x ys && b) px ∙ (and_false (has x ys) ∙ sym px))
    go false e false f ih = ih

pub has-firsts : (x : List ℕ) (ys : List (List ℕ)) → has x (firsts ys) ≡ has x ys
has-firsts x [] = refl
has-firsts x (y ∷ ys) =
    has-cons x y (filter (λ z. not (bytes_eq z y)) (firsts ys))
    ∙ (ap (λ b. bytes_eq x y || b) (has-filter (λ z. not (bytes_eq z y)) x (firsts ys) ∙ ap (λ a. a && not (bytes_eq x y)) (has-firsts x ys))
    ∙ (go (bytes_eq x y) ∙ sym (has-cons x y ys)))
  where
    go : (b : Bool) → (b || (has x ys && not b)) ≡ (b || has x ys)
    go true = refl
    go false = and-true (has x ys)

pub has-placed : (x y : List ℕ) (ys : List (List ℕ)) → has x (list_with before y ys) ≡ (bytes_eq x y || has x ys)
has-placed x y [] = has-cons x y []
has-placed x y (z ∷ zs) = go (before z y) (has-placed x y zs)
  where
    swap : (a b c : Bool) → (a || (b || c)) ≡ (b || (a || c))
    swap true true c = refl
    swap true false c = refl
    swap false true c = refl
    swap false false c = refl

    go : (b : Bool) → has x (list_with before y zs) ≡ (bytes_eq x y || has x zs) → has x (cond b (z ∷ list_with before y zs) (y ∷ z ∷ zs)) ≡ (bytes_eq x y || has x (z ∷ zs))
    go true ih = has-cons x z (list_with before y zs) ∙ (ap (λ b. bytes_eq x z || b) ih ∙ (swap (bytes_eq x z) (bytes_eq x y) (has x zs) ∙ ap (λ b. bytes_eq x y || b) (sym (has-cons x z zs))))
    go false ih = has-cons x y (z ∷ zs)

pub has-by_id : (x : List ℕ) (ys : List (List ℕ)) → has x (by_id ys) ≡ has x ys
has-by_id x [] = refl
has-by_id x (y ∷ ys) = has-placed x y (by_id ys) ∙ (ap (λ b. bytes_eq x y || b) (has-by_id x ys) ∙ sym (has-cons x y ys))

-- ---- Apart

pub Apart-nil : Apart []
unfolding Apart
Apart-nil = tt

pub Apart-cons : (x : List ℕ) (xs : List (List ℕ)) → has x xs ≡ false → Apart xs → Apart (x ∷ xs)
unfolding Apart
Apart-cons x xs h a = (h, a)

pub Apart-head : (x : List ℕ) (xs : List (List ℕ)) → Apart (x ∷ xs) → has x xs ≡ false
unfolding Apart
Apart-head x xs a = a.0

pub Apart-tail : (x : List ℕ) (xs : List (List ℕ)) → Apart (x ∷ xs) → Apart xs
unfolding Apart
Apart-tail x xs a = a.1

pub Apart-filter : (p : List ℕ → Bool) (xs : List (List ℕ)) → Apart xs → Apart (filter p xs)
Apart-filter p [] a = a
Apart-filter p (x ∷ xs) a = go (p x) (Apart-filter p xs (Apart-tail x xs a))
  where
    go : (b : Bool) → Apart (filter p xs) → Apart (cond b (x ∷ filter p xs) (filter p xs))
    go true ih = Apart-cons x (filter p xs) (has-filter p x xs ∙ ap (λ b. b && p x) (Apart-head x xs a)) ih
    go false ih = ih

pub Apart-firsts : (xs : List (List ℕ)) → Apart (firsts xs)
Apart-firsts [] = Apart-nil
Apart-firsts (x ∷ xs) =
    Apart-cons x (filter (λ z. not (bytes_eq z x)) (firsts xs))
    (has-filter (λ z. not (bytes_eq z x)) x (firsts xs) ∙ (ap (λ b. has x (firsts xs) && not b) (bytes_eq-refl x) ∙ and_false (has x (firsts xs))))
    (Apart-filter (λ z. not (bytes_eq z x)) (firsts xs) (Apart-firsts xs))

pub Apart-placed : (x : List ℕ) (xs : List (List ℕ)) → has x xs ≡ false → Apart xs → Apart (list_with before x xs)
Apart-placed x [] h a = Apart-cons x [] h a
Apart-placed x (y ∷ ys) h a = go (before y x) (Apart-placed x ys parts.1 (Apart-tail y ys a))
  where
    parts : (bytes_eq x y ≡ false) × (has x ys ≡ false)
    parts = or_parts (bytes_eq x y) (has x ys) (sym (has-cons x y ys) ∙ h)

    go : (b : Bool) → Apart (list_with before x ys) → Apart (cond b (y ∷ list_with before x ys) (x ∷ y ∷ ys))
    go true ih = Apart-cons y (list_with before x ys) (has-placed y x ys ∙ (ap₂ (λ b c. b || c) (bytes_eq-sym y x ∙ parts.0) (Apart-head y ys a))) ih
    go false ih = Apart-cons x (y ∷ ys) h a

pub Apart-by_id : (xs : List (List ℕ)) → Apart xs → Apart (by_id xs)
Apart-by_id [] a = a
Apart-by_id (x ∷ xs) a = Apart-placed x (by_id xs) (has-by_id x xs ∙ Apart-head x xs a) (Apart-by_id xs (Apart-tail x xs a))

pub Apart-append : (xs ys : List (List ℕ)) → Apart xs → Apart ys → ((x : List ℕ) → has x xs ≡ true → has x ys ≡ false) → Apart (xs ++ ys)
Apart-append [] ys a b h = b
Apart-append (x ∷ xs) ys a b h =
    Apart-cons x (xs ++ ys)
    (has-append x xs ys ∙ ap₂ (λ c d. c || d) (Apart-head x xs a) (h x (has-head x xs)))
    (Apart-append xs ys (Apart-tail x xs a) b (λ z hz. h z (has-tail z x xs hz)))
