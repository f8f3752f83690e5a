-- Lists of ids: membership, first appearances, the order by id; the ids that are always there.
use Rattle.std.specs.Prelude.{◌≡◌, ℕ, List, [], ◌∷◌, Bool, false, codes, bytes_eq}
use Rattle.std.specs.List.{list_any}
use Rattle.std.specs.Bool.{⊤}
use Rattle.std.specs.Ordering.{is_lt}
use Rattle.std.specs.Cmp.Lexicographic.{pointwise}
use Rattle.ss_text.specs.Texts.{text_cmp, once_by, sorted}

-- the same ids in the same order
unfoldable pub same_list : List (List ℕ) → List (List ℕ) → Bool
same_list xs ys = pointwise bytes_eq xs ys

-- x stands in the list
unfoldable pub has : List ℕ → List (List ℕ) → Bool
has x ys = list_any (bytes_eq x) ys

-- no id stands twice
unfoldable pub Apart : List (List ℕ) → Type 0
Apart [] = ⊤
Apart (x ∷ xs) = (has x xs ≡ false) × Apart xs

-- each id once, in the order of first appearance
abbrev pub firsts : List (List ℕ) → List (List ℕ)
firsts xs = once_by (λ x. x) xs

-- the first id is smaller, by its bytes
unfoldable pub before : List ℕ → List ℕ → Bool
before x y = is_lt (text_cmp x y)

-- the ids in order
abbrev pub by_id : List (List ℕ) → List (List ℕ)
by_id xs = sorted before xs

-- the id of the tree's top
unfoldable pub places : List ℕ
places = codes "places"

unfoldable pub unfiled : List ℕ
unfiled = codes "unfiled"

-- the roots, in the order in which they stand under `places`
unfoldable pub roots : List (List ℕ)
roots = codes "menu" ∷ codes "toolbar" ∷ codes "unfiled" ∷ codes "mobile" ∷ []
