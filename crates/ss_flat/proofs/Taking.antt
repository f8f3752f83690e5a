-- Lists that are gone through by index.
use Rattle.std.proofs.Common.{◌≡◌, ℕ, zero, suc, ◌+◌, ◌≤◌, List, [], ◌∷◌, ◌++◌, length, map, take, filter_map}
use Rattle.std.proofs.Common.{slice_get, refl, sym, ap, ◌∙◌, arith}
use Rattle.std.proofs.lemmas.List.Elements.{filter_map-append}
use Rattle.std.proofs.lemmas.List.{take_all}
use Rattle.std.specs.Option.{option_to_list}
use Rattle.std.specs.Prelude.{Option}

pub take_one : {X : Type 0} (xs : List X) (i : ℕ) → take (i + 1) xs ≡ take i xs ++ option_to_list (slice_get xs i)
take_one {X} xs i = let next : i + 1 ≡ suc i = omega arith in ap (λ n. take n xs) next ∙ by xs i
  where
    by : (ys : List X) (k : ℕ) → take (suc k) ys ≡ take k ys ++ option_to_list (slice_get ys k)
    by [] zero = refl
    by [] (suc k) = refl
    by (y ∷ ys) zero = refl
    by (y ∷ ys) (suc k) = ap (λ l. y ∷ l) (by ys k)

-- one element more that is kept or not
pub kept_more : {X Y : Type 0} (h : X → Option Y) (xs : List X) (i : ℕ) (before after : List Y) → before ≡ filter_map h (take i xs) → after ≡ before ++ filter_map h (option_to_list (slice_get xs i))
    → after ≡ filter_map h (take (i + 1) xs)
kept_more h xs i before after e f =
    f ∙ ap (λ l. l ++ filter_map h (option_to_list (slice_get xs i))) e ∙ sym (ap (filter_map h) (take_one xs i) ∙ filter_map-append h (take i xs) (option_to_list (slice_get xs i)))

pub kept_all : {X Y : Type 0} (h : X → Option Y) (xs : List X) (i : ℕ) (all : List Y) → length xs ≤ i → all ≡ filter_map h (take i xs) → all ≡ filter_map h xs
kept_all h xs i all past e = e ∙ ap (filter_map h) (take_all i xs past)

mapped : {X Y : Type 0} (f : X → Y) (xs ys : List X) → map f (xs ++ ys) ≡ map f xs ++ map f ys
mapped f [] ys = refl
mapped f (x ∷ xs) ys = ap (λ l. f x ∷ l) (mapped f xs ys)

pub mapped_more : {X Z Y : Type 0} (f : X → Y) (g : Z → Y) (xs : List X) (i : ℕ) (before after : List Z) → map g before ≡ map f (take i xs) → map g after ≡ map g before ++ map f (option_to_list (slice_get xs i))
    → map g after ≡ map f (take (i + 1) xs)
mapped_more f g xs i before after e k =
    k ∙ ap (λ l. l ++ map f (option_to_list (slice_get xs i))) e ∙ sym (ap (map f) (take_one xs i) ∙ mapped f (take i xs) (option_to_list (slice_get xs i)))

pub mapped_all : {X Z Y : Type 0} (f : X → Y) (g : Z → Y) (xs : List X) (i : ℕ) (all : List Z) → length xs ≤ i → map g all ≡ map f (take i xs) → map g all ≡ map f xs
mapped_all f g xs i all past e = e ∙ ap (map f) (take_all i xs past)
