-- What a sort by a key leaves is the sorted list.
use Rattle.std.proofs.Common.{◌≡◌, List, [], ◌∷◌, map, Bool, true, false, cond, refl, ap, ◌∙◌}
use Rattle.std.proofs.lemmas.Fn.{always_returns_same}
use Rattle.std.proofs.lemmas.List.Sorted.{ranks_by}
use Rattle.std.specs.declared.cmp.Ordering.{Ordering}
use Rattle.std.specs.Cmp.{IsTotalOrder}
use Rattle.std.specs.Fn.{Called}
use Rattle.std.specs.List.Sorted.{IsSortedByClosure, IsStableByClosure}
use Rattle.std.specs.Ordering.{is_lt}
use denote.Ref.{Bor}
use denote.Param.Members.{Mut}
use Rattle.ss_text.specs.Texts.{list_with, sorted}
use Rattle.ss_text.proofs.Sorting.{sorted_is}

-- ---- under a function

module _ {X Y : Type 0} (lt : Y → Y → Bool) (f : X → Y) where
  map_step : (b : Bool) (x y : X) (ys : List X) → map f (list_with (λ a c. lt (f a) (f c)) x ys) ≡ list_with lt (f x) (map f ys)
      → map f (cond b (y ∷ list_with (λ a c. lt (f a) (f c)) x ys) (x ∷ y ∷ ys)) ≡ cond b (f y ∷ list_with lt (f x) (map f ys)) (f x ∷ f y ∷ map f ys)
  map_step true x y ys later = ap (λ l. f y ∷ l) later
  map_step false x y ys later = refl

  map-placed : (x : X) (ys : List X) → map f (list_with (λ a c. lt (f a) (f c)) x ys) ≡ list_with lt (f x) (map f ys)
  map-placed x [] = refl
  map-placed x (y ∷ ys) = map_step (lt (f y) (f x)) x y ys (map-placed x ys)

  pub map-sorted : (xs : List X) → map f (sorted (λ a b. lt (f a) (f b)) xs) ≡ sorted lt (map f xs)
  map-sorted [] = refl
  map-sorted (x ∷ xs) = map-placed x (sorted (λ a b. lt (f a) (f b)) xs) ∙ ap (list_with lt (f x)) (map-sorted xs)

-- what `sort_by` leaves of a list, seen by a key that its closure compares
pub sorted_by_closure : {F B X : Type 0} {g : Mut F (Bor B × (Bor B × Unit {0})) Ordering} {f : F} (cmp : X → X → Ordering) (total : IsTotalOrder cmp) (key : B → X) (xs ys : List B)
    → IsSortedByClosure g f ys → IsStableByClosure g f xs ys
    → ((a : Bor B × (Bor B × Unit {0})) (r : Ordering) (f' : F) → Called g f a r f' → (r ≡ cmp (key a.0.now) (key a.1.0.now)) × (f' ≡ f))
    → map key ys ≡ sorted (λ a b. is_lt (cmp a b)) (map key xs)
sorted_by_closure {g = g} {f = f} cmp total key xs ys up stable calls =
    let order = ranks_by total key in
    let answers = always_returns_same g (λ a r. is_lt r ≡ is_lt (cmp (key a.0.now) (key a.1.0.now))) f (λ a r f' k. (ap is_lt (calls a r f' k).0, (calls a r f' k).1)) in
    ap (map key) (sorted_is (λ a b. is_lt (cmp (key a) (key b))) order xs ys (up (λ a b. is_lt (cmp (key a) (key b))) order answers) (stable (λ a b. is_lt (cmp (key a) (key b))) order answers))
    ∙ map-sorted (λ a b. is_lt (cmp a b)) key xs
