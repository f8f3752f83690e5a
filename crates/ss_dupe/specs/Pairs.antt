-- New items that are the same on both sides.
use Rattle.std.specs.Prelude.{◌≡◌, ℕ, Bool, true, ◌&&◌, List, Some, count_by, map, bytes_eq}
use Rattle.std.specs.List.{before_first}
use Rattle.std.specs.Map.{lookup}
use Rattle.std.specs.List.Sorted.{IsStrictlySortedBy}
use Rattle.ss_text.specs.Texts.{text_cmp}
use Rattle.ss_dupe.specs.declared.sides.Side.{Side}
use Rattle.ss_dupe.specs.declared.sides.Side.TheVariants.{Local, Remote}
use Rattle.ss_dupe.specs.Looks.{Id, at, parent_of, children_of}
use Rattle.ss_dupe.specs.Keys.{key_of}
use Rattle.ss_dupe.specs.Sides.{Sides, tree_of, is_new}

-- the key of an item on a side
abbrev pub key_on : Sides → Side → Id → List ℕ
key_on s side x = key_of (at (tree_of s side) x).kind (at (tree_of s side) x).content

-- new, with this key
abbrev pub new_like : Sides → Side → List ℕ → Id → Bool
new_like s side key x = is_new s side x && bytes_eq (key_on s side x) key

-- the number of earlier siblings that are new and have its key
unfoldable pub rank : Sides → Side → Id → Id → ℕ
rank s side parent x = count_by (new_like s side (key_on s side x)) (before_first (bytes_eq x) (children_of (tree_of s side) parent))

-- both new, of the same key and rank, under these parents
pub record AreAlike (s : Sides) (l r p q : Id) : Type 0 where
  pub local_new : is_new s Local l ≡ true
  pub remote_new : is_new s Remote r ≡ true
  pub local_parent : parent_of s.local l ≡ Some p
  pub remote_parent : parent_of s.remote r ≡ Some q
  pub key_is : key_on s Local l ≡ key_on s Remote r
  pub rank_is : rank s Local p l ≡ rank s Remote q r

-- the least set of pairs of a local and a remote item that are alike, and whose parents have the same id or are themselves a pair
pub data IsPair (s : Sides) : Id → Id → Type 0 where
  Under_same : {l r : Id} → (p : Id) → AreAlike s l r p p → IsPair s l r
  Under_pair : {l r : Id} → (p q : Id) → IsPair s p q → AreAlike s l r p q → IsPair s l r

-- the pairs as a list, by local id
pub record ArePairs (s : Sides) (pairs : List (Id × Id)) : Type 0 where
  pub in_order : IsStrictlySortedBy text_cmp (map (λ p. p.0) pairs)
  pub each : (l r : Id) → lookup (bytes_eq l) pairs ≡ Some r → IsPair s l r
  pub all : (l r : Id) → IsPair s l r → lookup (bytes_eq l) pairs ≡ Some r
