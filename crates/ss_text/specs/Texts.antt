-- Lists that are asked by a text, and lists in order.
use Rattle.std.specs.Prelude.{ℕ, Bool, not, List, [], ◌∷◌, filter, length, ◌==◌, bytes_eq, if◌then◌else◌}
use Rattle.std.specs.List.{slice_split}
use Rattle.std.specs.declared.cmp.Ordering.{Ordering}
use Rattle.std.specs.Ordering.{nat_cmp}
use Rattle.std.specs.Cmp.Lexicographic.{slice_cmp}

-- the order of texts, upwards by bytes
abbrev pub text_cmp : List ℕ → List ℕ → Ordering
text_cmp = slice_cmp nat_cmp

-- the elements, each key once, in the order of first appearance
abbrev pub once_by : {X : Type 0} → (X → List ℕ) → List X → List X
once_by key [] = []
once_by key (x ∷ xs) = x ∷ filter (λ y. not (bytes_eq (key y) (key x))) (once_by key xs)

-- a list in order with one more element, before the first that doesn't come before it
abbrev pub list_with : {X : Type 0} → (X → X → Bool) → X → List X → List X
list_with before x [] = x ∷ []
list_with before x (y ∷ ys) = if before y x then y ∷ list_with before x ys else x ∷ y ∷ ys

-- the list in order, of equal elements the earlier first
abbrev pub sorted : {X : Type 0} → (X → X → Bool) → List X → List X
sorted before [] = []
sorted before (x ∷ xs) = list_with before x (sorted before xs)

-- the same elements, in whatever order
pub data IsReordering {X : Type 0} : List X → List X → Type 0 where
  nothing : IsReordering [] []
  head : (x : X) {xs ys : List X} → IsReordering xs ys → IsReordering (x ∷ xs) (x ∷ ys)
  swapped : (x y : X) (xs : List X) → IsReordering (x ∷ y ∷ xs) (y ∷ x ∷ xs)
  chain : {xs ys zs : List X} → IsReordering xs ys → IsReordering ys zs → IsReordering xs zs

-- the lines of a text: the pieces between newlines, empty ones dropped
abbrev pub lines_of : List ℕ → List (List ℕ)
lines_of text = filter (λ line. not (length line == 0)) (slice_split (λ b. b == 0x0a) text)
