-- Laws of tests, options, numbers, lists and bytes that the proofs of many crates use.
use Rattle.std.specs.Prelude.{◌≡◌, ℕ, ◌+◌, ◌<◌, ◌≤◌, ◌==◌, Bool, true, false, not, ◌&&◌, ◌||◌, cond, List}
use Rattle.std.specs.Prelude.{[], ◌∷◌, ◌++◌, length, take, get_or, map, filter, filter_map, Option, Some, None, is_some}
use Rattle.std.specs.Prelude.{option_map, option_and_then, bytes_eq, refl}
use Rattle.std.specs.List.{cons_option}
use Rattle.std.specs.Option.{option_to_list}
use Rattle.std.specs.Ordering.{is_lt}
use Rattle.std.specs.declared.cmp.Ordering.{Ordering}
use Rattle.std.specs.declared.cmp.Ordering.TheVariants.{Less, Equal, Greater}
use Rattle.std.proofs.Common.{sym, ap, ◌∙◌, arith, true≢false}
use Rattle.std.proofs.lemmas.Bool.{false_from_ne_true, not-false}
use Rattle.std.proofs.lemmas.Bool.Decides.{nat_tests}
use Rattle.std.proofs.lemmas.List.{take_more}
use Rattle.std.proofs.lemmas.Slice.Eq.{bytes_eq-Decides}

-- ---- tests

pub of_not : (a b : Bool) → a ≡ not b → a ≡ false → b ≡ true
of_not a b e f = not-false b (sym e ∙ f)

pub was_true : (b : Bool) → false ≡ not b → b ≡ true
was_true b e = not-false b (sym e)

pub no_way : {A : Type 0} (b : Bool) → b ≡ true → b ≡ false → A
no_way b e f = absurd (true≢false (sym e ∙ f))

pub both_left : (p q : Bool) → (p && q) ≡ true → p ≡ true
both_left true q e = refl
both_left false q e = e

pub both_right : (p q : Bool) → (p && q) ≡ true → q ≡ true
both_right true q e = e
both_right false q e = no_way false e refl

pub and_false : (b : Bool) → (b && false) ≡ false
and_false true = refl
and_false false = refl

pub and_swap : (a b : Bool) → (a && b) ≡ (b && a)
and_swap true true = refl
and_swap true false = refl
and_swap false true = refl
and_swap false false = refl

pub or_true : (b : Bool) → (b || true) ≡ true
or_true true = refl
or_true false = refl

pub or_false : (b : Bool) → (b || false) ≡ b
or_false true = refl
or_false false = refl

pub neither_left : (p q : Bool) → (p || q) ≡ false → p ≡ false
neither_left true q e = e
neither_left false q e = refl

pub neither_right : (p q : Bool) → (p || q) ≡ false → q ≡ false
neither_right true q e = no_way false (sym e) refl
neither_right false q e = e

-- ---- options

pub some_same : {X : Type 0} {x y : X} → Some x ≡ Some y → x ≡ y
some_same e = cc

pub none_some : {X : Type 0} {x : X} → None ≡ Some x → ⊥
none_some e = cc

pub is_none : {X : Type 0} (o : Option X) → is_some o ≡ false → o ≡ None
is_none None e = refl
is_none (Some x) e = no_way true refl e

pub is_one : {X : Type 0} (o : Option X) → is_some o ≡ true → (x : X) × (o ≡ Some x)
is_one None e = no_way false e refl
is_one (Some x) e = (x, refl)

pub map_some : {X Y : Type 0} (f : X → Y) (o : Option X) (y : Y) → option_map f o ≡ Some y → (x : X) × (o ≡ Some x) × (f x ≡ y)
map_some f None y e = absurd (none_some e)
map_some f (Some x) y e = (x, refl, some_same e)

pub and_then_some : {X Y : Type 0} (f : X → Option Y) (o : Option X) (y : Y) → option_and_then f o ≡ Some y → (x : X) × (o ≡ Some x) × (f x ≡ Some y)
and_then_some f None y e = absurd (none_some e)
and_then_some f (Some x) y e = (x, refl, e)

pub cons_option-append : {X : Type 0} (o : Option X) (xs ys : List X) → cons_option o (xs ++ ys) ≡ cons_option o xs ++ ys
cons_option-append None xs ys = refl
cons_option-append (Some x) xs ys = refl

pub cons_option-nil : {X : Type 0} (o : Option X) → cons_option o [] ≡ option_to_list o
cons_option-nil None = refl
cons_option-nil (Some x) = refl

-- ---- numbers and orders

pub own_number : (n : ℕ) → (n == n) ≡ true
own_number n = grind (arith, nat_tests)

pub number_turned : (m n : ℕ) → (m == n) ≡ (n == m)
number_turned m n = grind (arith, nat_tests)

pub is_less : (o : Ordering) → is_lt o ≡ true → o ≡ Less
is_less Less e = refl
is_less Equal e = no_way false e refl
is_less Greater e = no_way false e refl

-- ---- lists

pub take_push : {X : Type 0} (xs : List X) (i : ℕ) (x : X) → i < length xs → x ≡ get_or xs i x → take (i + 1) xs ≡ take i xs ++ x ∷ []
take_push xs i x lt is = take_more xs i x lt ∙ ap (λ one. take i xs ++ one ∷ []) (sym is)

pub map_same : {X : Type 0} (xs : List X) → map (λ x. x) xs ≡ xs
map_same [] = refl
map_same (x ∷ xs) = ap (λ (ys : List _). x ∷ ys) (map_same xs)

pub length-filter_le : {X : Type 0} (p : X → Bool) (xs : List X) → length (filter p xs) ≤ length xs
length-filter_le p [] = omega arith
length-filter_le p (x ∷ xs) = go (p x) (length-filter_le p xs)
  where
    go : (b : Bool) → length (filter p xs) ≤ length xs → length (cond b (x ∷ filter p xs) (filter p xs)) ≤ length (x ∷ xs)
    go true le = omega (arith, le)
    go false le = omega (arith, le)

pub filter_map-push : {X Y : Type 0} (f : X → Option Y) (xs : List X) (x : X) → filter_map f (xs ++ x ∷ []) ≡ filter_map f xs ++ option_to_list (f x)
filter_map-push f [] x = cons_option-nil (f x)
filter_map-push f (y ∷ ys) x = ap (λ l. cons_option (f y) l) (filter_map-push f ys x) ∙ cons_option-append (f y) (filter_map f ys) (option_to_list (f x))

-- ---- bytes

pub same_text : (x y : List ℕ) → bytes_eq x y ≡ true → x ≡ y
same_text x y e = (bytes_eq-Decides x y).0 e

pub bytes_eq-same : (x y : List ℕ) → x ≡ y → bytes_eq x y ≡ true
bytes_eq-same x y e = (bytes_eq-Decides x y).1 e

pub bytes_eq-flip : (x y : List ℕ) → bytes_eq x y ≡ false → bytes_eq y x ≡ false
bytes_eq-flip x y e = false_from_ne_true (bytes_eq y x) (λ h. no_way (bytes_eq x y) (bytes_eq-same x y (sym (same_text y x h))) e)

pub bytes_eq-sym : (x y : List ℕ) → bytes_eq x y ≡ bytes_eq y x
bytes_eq-sym x y = go (bytes_eq x y) (bytes_eq y x) refl refl
  where
    go : (a b : Bool) → bytes_eq x y ≡ a → bytes_eq y x ≡ b → a ≡ b
    go true true e f = refl
    go false false e f = refl
    go true false e f = no_way (bytes_eq y x) (bytes_eq-same y x (sym (same_text x y e))) f
    go false true e f = no_way (bytes_eq x y) (bytes_eq-same x y (sym (same_text y x f))) e
