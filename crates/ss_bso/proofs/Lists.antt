-- Facts on each element and each pair of a list, by recursion on the list.
use Rattle.std.specs.Prelude.{◌≡◌, ℕ, suc, ◌≤◌, Bool, true, false, not, cond, List, [], ◌∷◌, ◌++◌, sum_by, Option, Some}
use Rattle.std.specs.Prelude.{None, find, filter, filter_map, map, refl, All, AllPairs}
use Rattle.std.specs.List.{cons_option}
use Rattle.std.proofs.Common.{subst, sym, ap, ◌∙◌, arith}
use Rattle.std.proofs.lemmas.List.Elements.{All-nil, All-cons}
use Rattle.std.proofs.lemmas.List.Filters.{sum_by-filter_both}
use Rattle.std.proofs.lemmas.List.Kept.{AllPairs-cons}
pub use Rattle.ss_bso.specs.Lists.{Each, Pairs}

pub Each-any : {X : Type 0} (xs : List X) → Each (λ (x : X). Unit {0}) xs
Each-any [] = tt
Each-any (x ∷ xs) = (tt, Each-any xs)

pub Each-filter : {X : Type 0} (P : X → Type 0) (p : X → Bool) (xs : List X) → Each P xs → Each P (filter p xs)
Each-filter P p [] e = tt
Each-filter P p (x ∷ xs) e =
    elim (p x) as (λ v. Each P (cond v (x ∷ filter p xs) (filter p xs))) [ true ↦ (e.0, Each-filter P p xs e.1) | false ↦ Each-filter P p xs e.1 ]

pub Each-map : {X Y : Type 0} (P : X → Type 0) (Q : Y → Type 0) (f : X → Y) → ((x : X) → P x → Q (f x)) → (xs : List X) → Each P xs → Each Q (map f xs)
Each-map P Q f h [] e = tt
Each-map P Q f h (x ∷ xs) e = (h x e.0, Each-map P Q f h xs e.1)

pub Each-imp : {X : Type 0} (P Q : X → Type 0) → ((x : X) → P x → Q x) → (xs : List X) → Each P xs → Each Q xs
Each-imp P Q h [] e = tt
Each-imp P Q h (x ∷ xs) e = (h x e.0, Each-imp P Q h xs e.1)

pub Each-append : {X : Type 0} (P : X → Type 0) (xs ys : List X) → Each P xs → Each P ys → Each P (xs ++ ys)
Each-append P [] ys e f = f
Each-append P (x ∷ xs) ys e f = (e.0, Each-append P xs ys e.1 f)

pub Each-find : {X : Type 0} (P : X → Type 0) (p : X → Bool) (xs : List X) (x : X) → find p xs ≡ Some x → Each P xs → P x
Each-find P p [] x e all = cc
Each-find P p (y ∷ ys) x e all =
    elim (p y) as (λ v. cond v (Some y) (find p ys) ≡ Some x → P x)
    [ true ↦ (λ h. let same : y ≡ x = cc in subst P same all.0) | false ↦ (λ h. Each-find P p ys x h all.1) ] e

pub find-passes : {X : Type 0} (p : X → Bool) (xs : List X) (x : X) → find p xs ≡ Some x → p x ≡ true
find-passes p [] x e = cc
find-passes {X} p (y ∷ ys) x e =
    elim (p y) as (λ v. p y ≡ v → cond v (Some y) (find p ys) ≡ Some x → p x ≡ true)
    [ true ↦ (λ t h. let same : y ≡ x = cc in let P : X → Type 0 = λ z. p z ≡ true in subst P same t) | false ↦ (λ t h. find-passes p ys x h) ] refl e

pub Each-and : {X : Type 0} (P Q : X → Type 0) (xs : List X) → Each P xs → Each Q xs → Each (λ (x : X). P x × Q x) xs
Each-and P Q [] e f = tt
Each-and P Q (x ∷ xs) e f = ((e.0, f.0), Each-and P Q xs e.1 f.1)

pub Each-from_All : {X : Type 0} (P : X → Type 0) (xs : List X) → All P xs → Each P xs
Each-from_All P [] h = tt
Each-from_All P (x ∷ xs) h = (h 0 x (omega arith), Each-from_All P xs (λ k d lt. h (suc k) d (omega arith)))

pub Pairs-from_AllPairs : {X : Type 0} (R : X → X → Type 0) (xs : List X) → AllPairs R xs → Pairs R xs
Pairs-from_AllPairs R [] h = tt
Pairs-from_AllPairs R (x ∷ xs) h = (
  Each-from_All (R x) xs (λ k d lt. h 0 (suc k) d (omega arith) (omega arith)),
  Pairs-from_AllPairs R xs (λ i j d lt within. h (suc i) (suc j) d (omega arith) (omega arith)),
)

pub All-from_Each : {X : Type 0} (P : X → Type 0) (xs : List X) → Each P xs → All P xs
All-from_Each P [] e = All-nil P
All-from_Each P (x ∷ xs) e = All-cons P x xs e.0 (All-from_Each P xs e.1)

pub AllPairs-from_Pairs : {X : Type 0} (R : X → X → Type 0) (xs : List X) → Pairs R xs → AllPairs R xs
AllPairs-from_Pairs R [] e = λ i j d lt within. absurd (omega arith)
AllPairs-from_Pairs R (x ∷ xs) e = AllPairs-cons R x xs (All-from_Each (R x) xs e.0) (AllPairs-from_Pairs R xs e.1)

-- what a filter keeps passes
pub Each-passes : {X : Type 0} (p : X → Bool) (xs : List X) → Each (λ (x : X). p x ≡ true) (filter p xs)
Each-passes p [] = tt
Each-passes {X} p (x ∷ xs) =
    elim (p x) as (λ v. p x ≡ v → Each (λ (y : X). p y ≡ true) (cond v (x ∷ filter p xs) (filter p xs))) [ true ↦ (λ h. (h, Each-passes p xs)) | false ↦ (λ h. Each-passes p xs) ] refl

pub Pairs-filter : {X : Type 0} (R : X → X → Type 0) (p : X → Bool) (xs : List X) → Pairs R xs → Pairs R (filter p xs)
Pairs-filter R p [] e = tt
Pairs-filter R p (x ∷ xs) e =
    elim (p x) as (λ v. Pairs R (cond v (x ∷ filter p xs) (filter p xs))) [ true ↦ (Each-filter (R x) p xs e.0, Pairs-filter R p xs e.1) | false ↦ Pairs-filter R p xs e.1 ]

pub Pairs-append : {X : Type 0} (R : X → X → Type 0) (xs ys : List X) → Pairs R xs → Pairs R ys → Each (λ (x : X). Each (R x) ys) xs → Pairs R (xs ++ ys)
Pairs-append R [] ys e f g = f
Pairs-append R (x ∷ xs) ys e f g = (Each-append (R x) xs ys e.0 g.0, Pairs-append R xs ys e.1 f g.1)

pub Pairs-map : {X Y : Type 0} (R : X → X → Type 0) (S : Y → Y → Type 0) (f : X → Y) → ((x y : X) → R x y → S (f x) (f y)) → (xs : List X) → Pairs R xs → Pairs S (map f xs)
Pairs-map R S f h [] e = tt
Pairs-map R S f h (x ∷ xs) e = (Each-map (R x) (S (f x)) f (λ y r. h x y r) xs e.0, Pairs-map R S f h xs e.1)

pub sum_by-filter_le : {X : Type 0} (p : X → Bool) (f : X → ℕ) (xs : List X) → sum_by f (filter p xs) ≤ sum_by f xs
sum_by-filter_le p f xs = omega (arith, sum_by-filter_both p (λ x. not (p x)) (λ _. refl) f xs)

-- a find over two lists
pub find-skip : {X : Type 0} (p : X → Bool) (xs ys : List X) → Each (λ (x : X). p x ≡ false) xs → find p (xs ++ ys) ≡ find p ys
find-skip p [] ys e = refl
find-skip p (x ∷ xs) ys e = ap (λ v. cond v (Some x) (find p (xs ++ ys))) e.0 ∙ find-skip p xs ys e.1

pub find-last_not : {X : Type 0} (p : X → Bool) (xs : List X) (y : X) → p y ≡ false → find p (xs ++ y ∷ []) ≡ find p xs
find-last_not p [] y e = ap (λ v. cond v (Some y) None) e
find-last_not p (x ∷ xs) y e = ap (λ rest. cond (p x) (Some x) rest) (find-last_not p xs y e)

-- a find passes over what is filtered out, where that doesn't pass
pub find-filter : {X : Type 0} (p q : X → Bool) (xs : List X) → ((x : X) → q x ≡ false → p x ≡ false) → find p (filter q xs) ≡ find p xs
find-filter p q [] h = refl
find-filter {X} p q (x ∷ xs) h =
    elim (q x) as (λ v. q x ≡ v → find p (cond v (x ∷ filter q xs) (filter q xs)) ≡ cond (p x) (Some x) (find p xs)) [
      | true ↦ (λ e. ap (λ rest. cond (p x) (Some x) rest) (find-filter p q xs h))
      | false ↦ (λ e. find-filter p q xs h ∙ sym (ap (λ v. cond v (Some x) (find p xs)) (h x e)))
    ] refl

-- what a map by options gives of elements with P
pub Each-filter_map : {X Y : Type 0} (P : X → Type 0) (Q : Y → Type 0) (h : X → Option Y) → ((x : X) (y : Y) → P x → h x ≡ Some y → Q y) → (xs : List X) → Each P xs → Each Q (filter_map h xs)
Each-filter_map P Q h k [] e = tt
Each-filter_map {X} {Y} P Q h k (x ∷ xs) e =
    elim (h x) as (λ v. h x ≡ v → Each Q (cons_option v (filter_map h xs))) [
      | None ↦ (λ _. Each-filter_map P Q h k xs e.1)
      | Some y ↦ (λ made. (k x y e.0 made, Each-filter_map P Q h k xs e.1))
    ] refl

pub Pairs-filter_map : {X Y : Type 0} (R : X → X → Type 0) (S : Y → Y → Type 0) (h : X → Option Y) → ((x z : X) (y w : Y) → R x z → h x ≡ Some y → h z ≡ Some w → S y w) → (xs : List X) → Pairs R xs → Pairs S (filter_map h xs)
Pairs-filter_map R S h k [] e = tt
Pairs-filter_map {X} {Y} R S h k (x ∷ xs) e =
    elim (h x) as (λ v. h x ≡ v → Pairs S (cons_option v (filter_map h xs))) [
      | None ↦ (λ _. Pairs-filter_map R S h k xs e.1)
      | Some y ↦ (λ made. (Each-filter_map (R x) (S y) h (λ z w r other. k x z y w r made other) xs e.0, Pairs-filter_map R S h k xs e.1))
    ] refl

-- pairs by another relation, where each element has a fact
pub Pairs-imp : {X : Type 0} (R S : X → X → Type 0) (P : X → Type 0) → ((x y : X) → P x → P y → R x y → S x y) → (xs : List X) → Each P xs → Pairs R xs → Pairs S xs
Pairs-imp R S P h [] e p = tt
Pairs-imp R S P h (x ∷ xs) e p = (each xs e.1 p.0, Pairs-imp R S P h xs e.1 p.1)
  where
    each : (ys : List _) → Each P ys → Each (R x) ys → Each (S x) ys
    each [] f g = tt
    each (y ∷ ys) f g = (h x y e.0 f.0 g.0, each ys f.1 g.1)
