-- New items with what tells them apart.
use Rattle.std.specs.Prelude.{◌≡◌, ◌⊎◌, ◌==◌, ℕ, zero, suc, true, is_some, List, [], ◌∷◌, Bool, Some, ◌&&◌, map, filter}
use Rattle.std.specs.Prelude.{bytes_eq}
use Rattle.std.specs.List.{list_any}
use Rattle.std.specs.BTreeMap as tree
use Rattle.std.specs.BTreeMap.{BTreeMap}
use Rattle.ss_text.specs.Texts.{text_cmp}
use Rattle.ss_record.specs.Ids.{Apart}
use Rattle.ss_dupe.specs.declared.sides.Side.{Side}
use Rattle.ss_dupe.specs.declared.news.New.{New}
use Rattle.ss_dupe.specs.declared.news.Mark.{Mark}
use Rattle.ss_dupe.specs.Looks.{Id, is_in, children_of}
use Rattle.ss_dupe.specs.Sides.{Sides, tree_of, is_new}
use Rattle.ss_dupe.specs.Pairs.{key_on, rank, AreAlike}

-- an item under a parent, with its key and rank
abbrev pub new_at : Sides → Side → Id → Id → New
new_at s side parent x = record { id = x; mark = record { key = key_on s side x; rank = rank s side parent x } }

-- the new items under a parent
abbrev pub news_of : Sides → Side → Id → List New
news_of s side parent = map (new_at s side parent) (filter (is_new s side) (children_of (tree_of s side) parent))

-- no id stands twice among the children of a local or of a remote item
pub record AreApart (s : Sides) : Type 0 where
  pub each : (side : Side) (x : Id) → Apart (children_of (tree_of s side) x)

-- the pair stands in the list
abbrev pub has_pair : Id → Id → List (Id × Id) → Bool
has_pair l r pairs = list_any (λ p. bytes_eq l p.0 && bytes_eq r p.1) pairs

-- an item with this key and rank is in the list
abbrev pub HasNew : Mark → Id → List New → Type 0
HasNew m x [] = ⊥
HasNew m x (n ∷ ns) = ((n.mark ≡ m) × (n.id ≡ x)) ⊎ HasNew m x ns

-- the same key and rank
abbrev pub same_mark : Mark → Mark → Bool
same_mark a b = bytes_eq a.key b.key && (a.rank == b.rank)

-- an id that is in both trees, with itself
abbrev pub is_shared : Sides → Id → Id → Bool
is_shared s l r = bytes_eq l r && (is_in s.local l && is_in s.remote l)

-- the pairs at a round: the shared ids, and then each round's like children of the round before
unfoldable pub InRound : Sides → ℕ → Id → Id → Type 0
InRound s zero l r = is_shared s l r ≡ true
InRound s (suc n) l r = (p : Id) × (q : Id) × InRound s n p q × AreAlike s l r p q

-- the pairs were added to the map, and nothing was taken away
pub record Adds (old new : BTreeMap Id Id) (pairs : List (Id × Id)) : Type 0 where
  pub sound : (l r : Id) → tree.get text_cmp new l ≡ Some r → (tree.get text_cmp old l ≡ Some r) ⊎ (has_pair l r pairs ≡ true)
  pub kept : (l : Id) → is_some (tree.get text_cmp old l) ≡ true → is_some (tree.get text_cmp new l) ≡ true
  pub added : (l r : Id) → has_pair l r pairs ≡ true → is_some (tree.get text_cmp new l) ≡ true
