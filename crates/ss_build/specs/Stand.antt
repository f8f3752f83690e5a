-- Which rows stand for a tree.
use Rattle.std.specs.Prelude.{◌≡◌, ◌≢◌, ◌&&◌, ◌⊎◌, ℕ, List, Bool, true, false, Option, Some, None, find, option_map}
use Rattle.std.specs.Prelude.{unwrap_or, bytes_eq}
use Rattle.ss_record.specs.declared.readings.Reading.{Reading}
use Rattle.ss_record.specs.declared.readings.Reading.TheVariants.{Item, Tombstone, Skipped}
use Rattle.ss_record.specs.Ids.{has, places, roots, same_list}
use Rattle.ss_record.specs.Kinds.{same_kind}
use Rattle.ss_tree.specs.Trees.{PlacedItem, node, node_ids, empty_tree}
use Rattle.ss_build.specs.Rows.{Row, is_item}

-- ---- trees that differ at most in times

abbrev pub without_time : PlacedItem → PlacedItem
without_time n = record { id = n.id; kind = n.kind; content = n.content; parent = n.parent; children = n.children; time = 0 }

abbrev pub IsSameUntimed : List PlacedItem → List PlacedItem → Type 0
IsSameUntimed t u = (x : List ℕ) → option_map without_time (node x t) ≡ option_map without_time (node x u)

-- ---- rows that stand for a tree

-- the parent that a record names is the item's; of a root it may be absent
abbrev pub same_parent : PlacedItem → Option (List ℕ) → Bool
same_parent n None = has n.id roots
same_parent n (Some p) = unwrap_or (option_map (bytes_eq p) n.parent) false

-- the reading is an item of this kind and content, in this place
abbrev pub agrees : PlacedItem → Reading → Bool
agrees n (Item i p cs) = same_kind i.kind n.kind && bytes_eq i.content n.content && same_parent n p && same_list cs n.children
agrees n Tombstone = false
agrees n Skipped = false

-- the row of an id
unfoldable pub row : List ℕ → List Row → Option Row
row x rows = find (λ r. bytes_eq x r.id) rows

-- each item but `places` has a row that agrees with it, and no other row reads as an item
pub record HasItsRows (t : List PlacedItem) (rows : List Row) : Type 0 where
  pub each : (x : List ℕ) (n : PlacedItem) → x ≢ places → node x t ≡ Some n → (r : Row) × (row x rows ≡ Some r) × (agrees n r.reading ≡ true)
  pub others : (x : List ℕ) (r : Row) → row x rows ≡ Some r → is_item r.reading ≡ true → has x (node_ids t) ≡ true

-- no row reads as an item, and the tree is empty
pub record IsFresh (t : List PlacedItem) (rows : List Row) : Type 0 where
  pub none : (x : List ℕ) (r : Row) → row x rows ≡ Some r → is_item r.reading ≡ false
  pub empty : IsSameUntimed t empty_tree

-- rows from which the tree is built again
abbrev pub StandFor : List PlacedItem → List Row → Type 0
StandFor t rows = HasItsRows t rows ⊎ IsFresh t rows
