-- Trees of items by their ids, and which are valid.
use Rattle.std.specs.Prelude.{◌≡◌, ◌≢◌, ◌↔◌, ℕ, zero, suc, List, [], ◌∷◌, true, Option, Some, None, map, find, bytes_eq}
use Rattle.std.specs.Prelude.{codes, unwrap_or, option_and_then}
use Rattle.ss_record.specs.declared.kinds.Kind.{Kind}
use Rattle.ss_record.specs.declared.kinds.Kind.TheVariants.{Folder}
use Rattle.ss_record.specs.Ids.{has, Apart, places, roots}
use Rattle.ss_record.specs.Kinds.{is_folder}
use Rattle.ss_record.specs.Items.{ItemView}

-- an item in its place
pub record PlacedItem : Type 0 where
  pub id : List ℕ
  pub kind : Kind
  pub content : List ℕ
  pub parent : Option (List ℕ)
  pub children : List (List ℕ)
  pub time : ℕ

unfoldable pub node_ids : List PlacedItem → List (List ℕ)
node_ids t = map (λ n. n.id) t

-- the item of an id; the order of the list means nothing
unfoldable pub node : List ℕ → List PlacedItem → Option PlacedItem
node x t = find (λ n. bytes_eq x n.id) t

-- one step up; `places` where there is none
unfoldable pub parent_in : List PlacedItem → List ℕ → List ℕ
parent_in t x = unwrap_or (option_and_then (λ n. n.parent) (node x t)) places

-- the top of each tree
unfoldable pub places_node : PlacedItem
places_node = record { id = places; kind = Folder; content = codes "{}"; parent = None; children = roots; time = 0 }

-- x is an item that stands under y
unfoldable pub IsUnder : List PlacedItem → List ℕ → List ℕ → Type 0
IsUnder t y x = (n : PlacedItem) × (node x t ≡ Some n) × (n.parent ≡ Some y)

-- n steps from x
unfoldable pub steps : {X : Type 0} → (X → X) → ℕ → X → X
steps step zero x = x
steps step (suc n) x = steps step n (step x)

-- some number of steps leads from x to the top
abbrev pub Reaches : {X : Type 0} → (X → X) → X → X → Type 0
Reaches step top x = (k : ℕ) × (steps step k x ≡ top)

pub record IsValidTree (t : List PlacedItem) : Type 0 where
  -- a map: no id has two items
  pub apart : Apart (node_ids t)
  -- `places` has the four roots, in their order
  pub top_is : node places t ≡ Some places_node
  -- the children of an item are those that stand under it, each once
  pub stands : (y : List ℕ) (m : PlacedItem) → node y t ≡ Some m → (x : List ℕ) → (has x m.children ≡ true) ↔ IsUnder t y x
  pub once : (y : List ℕ) (m : PlacedItem) → node y t ≡ Some m → Apart m.children
  -- each item but `places` stands under a folder, and each root is one
  pub folder : (x : List ℕ) (n : PlacedItem) → node x t ≡ Some n → x ≢ places → (y : List ℕ) × (n.parent ≡ Some y) × (m : PlacedItem) × (node y t ≡ Some m) × (is_folder m.kind ≡ true)
  pub root_folder : (r : List ℕ) (n : PlacedItem) → has r roots ≡ true → node r t ≡ Some n → is_folder n.kind ≡ true
  -- the way up ends at `places`
  pub reaches : (x : List ℕ) (n : PlacedItem) → node x t ≡ Some n → Reaches (parent_in t) places x

-- the same items in the same places, with the same times
abbrev pub IsSame : List PlacedItem → List PlacedItem → Type 0
IsSame t u = (x : List ℕ) → node x t ≡ node x u

-- an empty root
abbrev pub empty_node : List ℕ → PlacedItem
empty_node r = record { id = r; kind = Folder; content = codes "{}"; parent = Some places; children = []; time = 0 }

-- `places` and the four roots, with nothing below
unfoldable pub empty_tree : List PlacedItem
empty_tree = places_node ∷ map empty_node roots

-- the item that stands in a place
abbrev pub item_of : PlacedItem → ItemView
item_of n = record { id = n.id; kind = n.kind; content = n.content }
