-- What does not depend on the order of a list.
use Rattle.std.specs.Prelude.{◌≡◌, ℕ, ◌+◌, Bool, true, false, not, ◌&&◌, cond, List, [], ◌∷◌, ◌++◌, length, sum_by}
use Rattle.std.specs.Prelude.{Option, Some, find, filter, map, refl}
use Rattle.std.proofs.Common.{sym, ap, ◌∙◌, arith}
use Rattle.std.proofs.lemmas.List.Sums.{sum_by-cons}
use Rattle.ss_text.specs.Texts.{IsReordering, nothing, head, swapped, chain, list_with, sorted}
use Rattle.ss_bso.specs.declared.account.Plain.{Plain}
use Rattle.ss_bso.specs.Validity.{SameAccount}
use Rattle.ss_bso.proofs.Lists.{Each, Pairs}

pub reordered-refl : {X : Type 0} (xs : List X) → IsReordering xs xs
reordered-refl [] = nothing
reordered-refl (x ∷ xs) = head x (reordered-refl xs)

pub reordered-sym : {X : Type 0} {xs ys : List X} → IsReordering xs ys → IsReordering ys xs
reordered-sym nothing = nothing
reordered-sym (head x r) = head x (reordered-sym r)
reordered-sym (swapped x y xs) = swapped y x xs
reordered-sym (chain r s) = chain (reordered-sym s) (reordered-sym r)

pub reordered-append_left : {X : Type 0} (us : List X) {xs ys : List X} → IsReordering xs ys → IsReordering (us ++ xs) (us ++ ys)
reordered-append_left [] r = r
reordered-append_left (u ∷ us) r = head u (reordered-append_left us r)

pub reordered-append_right : {X : Type 0} (us : List X) {xs ys : List X} → IsReordering xs ys → IsReordering (xs ++ us) (ys ++ us)
reordered-append_right us nothing = reordered-refl us
reordered-append_right us (head x r) = head x (reordered-append_right us r)
reordered-append_right us (swapped x y xs) = swapped x y (xs ++ us)
reordered-append_right us (chain r s) = chain (reordered-append_right us r) (reordered-append_right us s)

pub reordered-map : {X Y : Type 0} (f : X → Y) {xs ys : List X} → IsReordering xs ys → IsReordering (map f xs) (map f ys)
reordered-map f nothing = nothing
reordered-map f (head x r) = head (f x) (reordered-map f r)
reordered-map f (swapped x y xs) = swapped (f x) (f y) (map f xs)
reordered-map f (chain r s) = chain (reordered-map f r) (reordered-map f s)

filter-head : {X : Type 0} (b : Bool) (x : X) {xs ys : List X} → IsReordering xs ys → IsReordering (cond b (x ∷ xs) xs) (cond b (x ∷ ys) ys)
filter-head true x r = head x r
filter-head false x r = r

filter-swapped : {X : Type 0} (a b : Bool) (x y : X) (xs : List X) → IsReordering (cond a (x ∷ cond b (y ∷ xs) xs) (cond b (y ∷ xs) xs)) (cond b (y ∷ cond a (x ∷ xs) xs) (cond a (x ∷ xs) xs))
filter-swapped true true x y xs = swapped x y xs
filter-swapped true false x y xs = reordered-refl (x ∷ xs)
filter-swapped false true x y xs = reordered-refl (y ∷ xs)
filter-swapped false false x y xs = reordered-refl xs

pub reordered-filter : {X : Type 0} (p : X → Bool) {xs ys : List X} → IsReordering xs ys → IsReordering (filter p xs) (filter p ys)
reordered-filter p nothing = nothing
reordered-filter p (head x r) = filter-head (p x) x (reordered-filter p r)
reordered-filter p (swapped x y xs) = filter-swapped (p x) (p y) x y (filter p xs)
reordered-filter p (chain r s) = chain (reordered-filter p r) (reordered-filter p s)

pub length-reordered : {X : Type 0} {xs ys : List X} → IsReordering xs ys → length xs ≡ length ys
length-reordered nothing = refl
length-reordered (head x r) = omega (arith, length-reordered r)
length-reordered (swapped x y xs) = refl
length-reordered (chain r s) = length-reordered r ∙ length-reordered s

pub sum_by-reordered : {X : Type 0} (f : X → ℕ) {xs ys : List X} → IsReordering xs ys → sum_by f xs ≡ sum_by f ys
sum_by-reordered f nothing = refl
sum_by-reordered f (head x {xs} {ys} r) = sum_by-cons f x xs ∙ ap (λ n. f x + n) (sum_by-reordered f r) ∙ sym (sum_by-cons f x ys)
sum_by-reordered f (swapped x y xs) = omega (arith, sum_by-cons f x (y ∷ xs), sum_by-cons f y xs, sum_by-cons f y (x ∷ xs), sum_by-cons f x xs)
sum_by-reordered f (chain r s) = sum_by-reordered f r ∙ sum_by-reordered f s

pub Each-reordered : {X : Type 0} (P : X → Type 0) {xs ys : List X} → IsReordering xs ys → Each P xs → Each P ys
Each-reordered P nothing e = tt
Each-reordered P (head x r) e = (e.0, Each-reordered P r e.1)
Each-reordered P (swapped x y xs) e = (e.1.0, (e.0, e.1.1))
Each-reordered P (chain r s) e = Each-reordered P s (Each-reordered P r e)

pub Pairs-reordered : {X : Type 0} (R : X → X → Type 0) → ((x y : X) → R x y → R y x) → {xs ys : List X} → IsReordering xs ys → Pairs R xs → Pairs R ys
Pairs-reordered R flip nothing e = tt
Pairs-reordered R flip (head x r) e = (Each-reordered (R x) r e.0, Pairs-reordered R flip r e.1)
Pairs-reordered R flip (swapped x y xs) e = ((flip x y e.0.0, e.1.0), (e.0.1, e.1.1))
Pairs-reordered R flip (chain r s) e = Pairs-reordered R flip s (Pairs-reordered R flip r e)

-- at most one element passes
abbrev pub NotBoth : {X : Type 0} → (X → Bool) → X → X → Type 0
NotBoth p x y = (p x && p y) ≡ false

and_flip : (a b : Bool) → (a && b) ≡ false → (b && a) ≡ false
and_flip true true e = e
and_flip true false e = refl
and_flip false true e = refl
and_flip false false e = refl

find-swapped : {X : Type 0} (a b : Bool) (x y : X) (rest : Option X) → (a && b) ≡ false → cond a (Some x) (cond b (Some y) rest) ≡ cond b (Some y) (cond a (Some x) rest)
find-swapped true true x y rest e = cc
find-swapped true false x y rest e = refl
find-swapped false true x y rest e = refl
find-swapped false false x y rest e = refl

pub find-reordered : {X : Type 0} (p : X → Bool) {xs ys : List X} → IsReordering xs ys → Pairs (NotBoth p) xs → find p xs ≡ find p ys
find-reordered p nothing e = refl
find-reordered p (head x r) e = ap (λ rest. cond (p x) (Some x) rest) (find-reordered p r e.1)
find-reordered p (swapped x y xs) e = find-swapped (p x) (p y) x y (find p xs) e.0.0
find-reordered p (chain r s) e = find-reordered p r e ∙ find-reordered p s (Pairs-reordered (NotBoth p) (λ x y h. and_flip (p x) (p y) h) r e)

-- two elements of which just one comes before the other
abbrev pub Ranked : {X : Type 0} → (X → X → Bool) → X → X → Type 0
Ranked before x y = before y x ≡ not (before x y)

ranked_flip : (a b : Bool) → b ≡ not a → a ≡ not b
ranked_flip true b e = sym (ap not e)
ranked_flip false b e = sym (ap not e)

placed-first : {X : Type 0} (a b : Bool) (x y : X) (px py rest : List X) → b ≡ not a → px ≡ x ∷ rest → py ≡ y ∷ rest → cond b (y ∷ px) (x ∷ y ∷ rest) ≡ cond a (x ∷ py) (y ∷ x ∷ rest)
placed-first true b x y px py rest e f g = ap (λ v. cond v (y ∷ px) (x ∷ y ∷ rest)) e ∙ ap (λ more. x ∷ more) (sym g)
placed-first false b x y px py rest e f g = ap (λ v. cond v (y ∷ px) (x ∷ y ∷ rest)) e ∙ ap (λ more. y ∷ more) f

module _ {X : Type 0} (before : X → X → Bool) (through : (x y z : X) → before x y ≡ true → before y z ≡ true → before x z ≡ true) where
  placed-swapped : (x y : X) (zs : List X) → Ranked before x y → list_with before x (list_with before y zs) ≡ list_with before y (list_with before x zs)
  placed-swapped x y [] e = placed-first (before x y) (before y x) x y (x ∷ []) (y ∷ []) [] e refl refl
  placed-swapped x y (z ∷ zs) e =
      elim (before z y) as (λ v. before z y ≡ v → list_with before x (cond v (z ∷ list_with before y zs) (y ∷ z ∷ zs)) ≡ list_with before y (list_with before x (z ∷ zs))) [
        | false ↦ (λ zy. elim (before z x) as (λ v. before z x ≡ v → list_with before x (y ∷ z ∷ zs) ≡ list_with before y (cond v (z ∷ list_with before x zs) (x ∷ z ∷ zs))) [
          | false ↦ (λ zx. placed-first (before x y) (before y x) x y (list_with before x (z ∷ zs)) (list_with before y (z ∷ zs)) (z ∷ zs) e
              (ap (λ v. cond v (z ∷ list_with before x zs) (x ∷ z ∷ zs)) zx) (ap (λ v. cond v (z ∷ list_with before y zs) (y ∷ z ∷ zs)) zy))
          | true ↦ (λ zx.
              let first : before y x ≡ true = e ∙ ap not (not_before (before x y) (λ xy. sym (through z x y zx xy) ∙ zy)) in
              ap (λ v. cond v (y ∷ list_with before x (z ∷ zs)) (x ∷ y ∷ z ∷ zs)) first
              ∙ ap (λ more. y ∷ more) (ap (λ v. cond v (z ∷ list_with before x zs) (x ∷ z ∷ zs)) zx)
              ∙ sym (ap (λ v. cond v (z ∷ list_with before y (list_with before x zs)) (y ∷ z ∷ list_with before x zs)) zy))
        ] refl)
        | true ↦ (λ zy. elim (before z x) as (λ v. before z x ≡ v → cond v (z ∷ list_with before x (list_with before y zs)) (x ∷ z ∷ list_with before y zs) ≡ list_with before y (cond v (z ∷ list_with before x zs) (x ∷ z ∷ zs))) [
          | false ↦ (λ zx.
              let first : before x y ≡ true = ranked_flip (before x y) (before y x) e ∙ ap not (not_before (before y x) (λ yx. sym (through z y x zy yx) ∙ zx)) in
              sym (ap (λ v. cond v (x ∷ list_with before y (z ∷ zs)) (y ∷ x ∷ z ∷ zs)) first
              ∙ ap (λ more. x ∷ more) (ap (λ v. cond v (z ∷ list_with before y zs) (y ∷ z ∷ zs)) zy)))
          | true ↦ (λ zx.
              ap (λ more. z ∷ more) (placed-swapped x y zs e)
              ∙ sym (ap (λ v. cond v (z ∷ list_with before y (list_with before x zs)) (y ∷ z ∷ list_with before x zs)) zy))
        ] refl)
      ] refl
    where
      not_before : (b : Bool) → (b ≡ true → true ≡ false) → b ≡ false
      not_before true h = h refl
      not_before false h = refl

  pub sorted-reordered : {xs ys : List X} → IsReordering xs ys → Pairs (Ranked before) xs → sorted before xs ≡ sorted before ys
  sorted-reordered nothing e = refl
  sorted-reordered (head x r) e = ap (λ rest. list_with before x rest) (sorted-reordered r e.1)
  sorted-reordered (swapped x y xs) e = placed-swapped x y (sorted before xs) e.0.0
  sorted-reordered (chain r s) e = sorted-reordered r e ∙ sorted-reordered s (Pairs-reordered (Ranked before) (λ x y h. ranked_flip (before x y) (before y x) h) r e)

-- being the same account is an equivalence
pub same-self : (account : Plain) → SameAccount account account
same-self account = record {
  rows = reordered-refl account.rows;
  collections = reordered-refl account.collections;
  batches = reordered-refl account.batches;
  store = refl;
  last_delete = refl;
  moment = refl;
  counter = refl;
}

pub same-back : (account other : Plain) → SameAccount account other → SameAccount other account
same-back account other s = record {
  rows = reordered-sym s.rows;
  collections = reordered-sym s.collections;
  batches = reordered-sym s.batches;
  store = sym s.store;
  last_delete = sym s.last_delete;
  moment = sym s.moment;
  counter = sym s.counter;
}

pub same-through : (one two three : Plain) → SameAccount one two → SameAccount two three → SameAccount one three
same-through one two three s t = record {
  rows = chain s.rows t.rows;
  collections = chain s.collections t.collections;
  batches = chain s.batches t.batches;
  store = s.store ∙ t.store;
  last_delete = s.last_delete ∙ t.last_delete;
  moment = s.moment ∙ t.moment;
  counter = s.counter ∙ t.counter;
}
