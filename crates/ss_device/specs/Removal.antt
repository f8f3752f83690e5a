-- Nodes that can be removed from the last to the first.
use Rattle.std.specs.Prelude.{◌≡◌, ◌==◌, ℕ, List, ◌∷◌, ◌++◌, Bool, true, false, Some, is_some, bytes_eq}
use Rattle.std.specs.List.{list_any}
use Rattle.ss_tree.specs.declared.entries.Entry.{Entry}
use Rattle.ss_tree.specs.Entries.{IsTree, entry, is_fixed, is_live, kids, tree}
use Rattle.ss_tree.specs.Trees.{IsValidTree, PlacedItem, node, parent_in}
use Rattle.ss_record.specs.Ids.{places}
use Rattle.ss_record.specs.Items.{is_fit}
use Rattle.ss_device.specs.Edits.{is_fixed as is_fixed_id, is_within}
use Rattle.ss_tree.specs.Trees.{item_of}

-- the node is one of these
abbrev pub among : ℕ → List ℕ → Bool
among k ks = list_any (λ j. k == j) ks

-- the nodes of an item and of all below it: each is there once, none is `places` or a root, and behind each of them come
-- its children
pub record CanGo (es : List Entry) (x : List ℕ) (nodes : List ℕ) : Type 0 where
  pub kept : IsTree es
  pub once : (front : List ℕ) (k : ℕ) (back : List ℕ) → nodes ≡ front ++ k ∷ back → among k back ≡ false
  pub later : (front : List ℕ) (k : ℕ) (back : List ℕ) → nodes ≡ front ++ k ∷ back → (j : ℕ) → among j (kids k es) ≡ true → among j back ≡ true
  pub loose : (k : ℕ) → among k nodes ≡ true → is_fixed k es ≡ false
  pub live : (k : ℕ) → among k nodes ≡ true → is_live k es ≡ true
  pub all : (k : ℕ) (e : Entry) → entry k es ≡ Some e → among k nodes ≡ is_within (tree es) x e.item.id

-- an item that can be deleted: its nodes; its folder, which is in the tree and stays, and the folder's content
pub record IsDeletableItem (es : List Entry) (x : List ℕ) (nodes : List ℕ) (from content : List ℕ) : Type 0 where
  pub can : CanGo es x nodes
  pub there : is_some (node x (tree es)) ≡ true
  pub loose : is_fixed_id x ≡ false
  pub valid : IsValidTree (tree es)
  pub folder : from ≡ parent_in (tree es) x
  pub folder_there : is_some (node from (tree es)) ≡ true
  pub folder_inner : bytes_eq from places ≡ false
  pub folder_outside : is_within (tree es) x from ≡ false
  pub content_is : (n : PlacedItem) → node from (tree es) ≡ Some n → n.content ≡ content
  pub content_fit : (n : PlacedItem) → node from (tree es) ≡ Some n → is_fit (item_of n) ≡ true
