-- Maps of facts of ids.
use Rattle.std.proofs.Common.{◌≡◌, ◌⊎◌, ◌+◌, ◌-◌, ◌<◌, ◌≤◌, ℕ, zero, suc, Bool, true, false, cond, ◌||◌, List, [], ◌∷◌}
use Rattle.std.proofs.Common.{◌++◌, length, take, get_or, bytes_eq, Option, Some, None, refl, sym, ap, ◌∙◌, inl, inr}
use Rattle.std.proofs.Common.{arith}
use Rattle.std.proofs.lemmas.List.{take_more, take_all}
use Rattle.std.specs.Prelude.{Result, Ok, Err, OnOk}
use Rattle.ss_record.specs.Ids.{has}
use Rattle.ss_record.proofs.IdLists.{has-nil, has-cons, has-append}
use Rattle.ss_dupe.specs.Looks.{Id, is_root}
use Rattle.ss_dupe.specs.Walks.{meets, passes}
use Rattle.ss_dupe.specs.Sides.{Sides}
use Rattle.ss_merge.specs.Parents.{chosen, fallback, final, is_rooted}
use Rattle.ss_merge.specs.Claims.{AreMerging}
use Rattle.ss_merge.specs.Links.{Holds, or_else}
use Rattle.ss_merge.proofs.Sided.{chosen-folder, folder_survives, survivor_has}
use Rattle.std.proofs.lemmas.Bool.{cases_Bool}
use Rattle.ss_text.proofs.Basics.{bytes_eq-sym, same_text, no_way}

pub has-more : (x y : Id) (ids : List Id) (i : ℕ) → i < length ids → y ≡ get_or ids i y → has x (take (i + 1) ids) ≡ (has x (take i ids) || bytes_eq x y)
has-more x y ids i lt e =
    ap (has x) (take_more ids i y lt ∙ ap (λ z. take i ids ++ z ∷ []) (sym e)) ∙ has-append x (take i ids) (y ∷ [])
    ∙ ap (λ b. has x (take i ids) || b) (has-cons x y [] ∙ ap (λ b. bytes_eq x y || b) (has-nil x) ∙ or-false (bytes_eq x y))
  where
    or-false : (b : Bool) → (b || false) ≡ b
    or-false true = refl
    or-false false = refl

pub holds_none : {A : Type 0} (g f : Id → Option A) (ids : List Id) → ((x : Id) → g x ≡ None) → Holds g f (take 0 ids)
holds_none g f ids none x = none x ∙ sym (ap (λ b. cond b (f x) None) (has-nil x))

-- what there is of one more id was put in
pub holds_more : {A : Type 0} (g h f : Id → Option A) (ids : List Id) (i : ℕ) (y : Id) → i < length ids → y ≡ get_or ids i y → Holds g f (take i ids)
    → ((x : Id) → h x ≡ cond (bytes_eq y x) (or_else (f y) (g x)) (g x)) → Holds h f (take (i + 1) ids)
holds_more {A = A} g h f ids i y lt e before put x =
    put x ∙ ap (λ o. cond (bytes_eq y x) (or_else (f y) o) o) (before x) ∙ cases (cases_Bool (bytes_eq y x)) ∙ sym (ap (λ b. cond b (f x) None) (has-more x y ids i lt e))
  where
    added : (o : Option A) (b : Bool) → or_else o (cond b o None) ≡ o
    added None true = refl
    added None false = refl
    added (Some v) b = refl

    or_true : (b : Bool) → (b || true) ≡ true
    or_true true = refl
    or_true false = refl

    or-false : (b : Bool) → (b || false) ≡ b
    or-false true = refl
    or-false false = refl

    cases : (bytes_eq y x ≡ true) ⊎ (bytes_eq y x ≡ false) → cond (bytes_eq y x) (or_else (f y) (cond (has x (take i ids)) (f x) None)) (cond (has x (take i ids)) (f x) None) ≡ cond (has x (take i ids) || bytes_eq x y) (f x) None
    cases (inl hit) =
        ap (λ b. cond b (or_else (f y) (cond (has x (take i ids)) (f x) None)) (cond (has x (take i ids)) (f x) None)) hit
        ∙ ap (λ z. or_else (f z) (cond (has x (take i ids)) (f x) None)) (same_text y x hit)
        ∙ added (f x) (has x (take i ids))
        ∙ sym (ap (λ b. cond (has x (take i ids) || b) (f x) None) (bytes_eq-sym x y ∙ hit) ∙ ap (λ b. cond b (f x) None) (or_true (has x (take i ids))))
    cases (inr miss) =
        ap (λ b. cond b (or_else (f y) (cond (has x (take i ids)) (f x) None)) (cond (has x (take i ids)) (f x) None)) miss
        ∙ sym (ap (λ b. cond (has x (take i ids) || b) (f x) None) (bytes_eq-sym x y ∙ miss) ∙ ap (λ b. cond b (f x) None) (or-false (has x (take i ids))))

pub holds_all : {A : Type 0} (g f : Id → Option A) (ids : List Id) (i : ℕ) → length ids ≤ i → Holds g f (take i ids) → Holds g f ids
holds_all g f ids i le h x = h x ∙ ap (λ l. cond (has x l) (f x) None) (take_all i ids le)

pub held : {A : Type 0} (g f : Id → Option A) (ids : List Id) (x : Id) → Holds g f ids → has x ids ≡ true → g x ≡ f x
held g f ids x h k = h x ∙ ap (λ b. cond b (f x) None) k

pub on_ok : {T E P Q : Type 0} (r : Result T E) → (P → Q) → OnOk r P → OnOk r Q
on_ok (Ok t) f p = f p
on_ok (Err e) f p = p

pub put_some : (g h : Id → Option Id) (o : Option Id) (y p : Id) → o ≡ Some p → ((x : Id) → h x ≡ cond (bytes_eq y x) (Some p) (g x)) → (x : Id) → h x ≡ cond (bytes_eq y x) (or_else o (g x)) (g x)
put_some g h o y p e put x = put x ∙ ap (λ w. cond (bytes_eq y x) (or_else w (g x)) (g x)) (sym e)

pub put_none : (g : Id → Option Id) (o : Option Id) (y : Id) → o ≡ None → (x : Id) → g x ≡ cond (bytes_eq y x) (or_else o (g x)) (g x)
put_none g o y e x = sym (ap (λ w. cond (bytes_eq y x) (or_else w (g x)) (g x)) e ∙ same (bytes_eq y x))
  where
    same : (b : Bool) → cond b (g x) (g x) ≡ g x
    same true = refl
    same false = refl

pub has_some : (x : Id) (ids : List Id) → has x ids ≡ true → 0 < length ids
has_some x [] h = no_way (has x []) h (has-nil x)
has_some x (y ∷ ys) h = omega arith

-- ---- the walk along a map

module _ (s : Sides) (ids : List Id) (m : AreMerging s ids) (g : Id → Option Id) (h : Holds g (chosen s (length ids)) ids) where
  abbrev n : ℕ
  n = length ids

  passes_same : (p q : Id → Bool) (o : Option Id) → ((y : Id) → o ≡ Some y → p y ≡ q y) → passes p o ≡ passes q o
  passes_same p q None is = refl
  passes_same p q (Some y) is = is y refl

  same_walk : (k : ℕ) (x : Id) → has x ids ≡ true → meets g is_root k x ≡ meets (chosen s n) is_root k x
  same_walk zero x i = refl
  same_walk (suc k) x i =
      ap (λ o. is_root x || passes (meets g is_root k) o) (held g (chosen s n) ids x h i)
      ∙ ap (λ b. is_root x || b) (passes_same (meets g is_root k) (meets (chosen s n) is_root k) (chosen s n x) (λ y e. same_walk k y (survivor_has s ids m y (folder_survives s y (chosen-folder s n x y e)))))

  pub final-is : (x : Id) → has x ids ≡ true → cond (meets g is_root n x) (g x) (fallback s n x) ≡ final s n x
  unfolding final is_rooted
  final-is x i = ap (λ b. cond b (g x) (fallback s n x)) (same_walk n x i) ∙ ap (λ o. cond (meets (chosen s n) is_root n x) o (fallback s n x)) (held g (chosen s n) ids x h i)
