-- Trees of items by their nodes: each node's item, its parent's node, and the nodes under it in their order.
use Rattle.std.specs.Prelude.{◌≡◌, ◌≢◌, ◌==◌, ◌<◌, ◌&&◌, ◌||◌, ℕ, zero, suc, List, [], ◌∷◌, ◌++◌, Bool, true, false}
use Rattle.std.specs.Prelude.{not, if◌then◌else◌, Option, Some, None, map, filter, find, length, bytes_eq, codes}
use Rattle.std.specs.Prelude.{unwrap_or, option_map, option_and_then, is_some}
use Rattle.std.specs.List.{flat_map}
use Rattle.std.specs.Bool.{⊤}
use Rattle.ss_record.specs.Ids.{has, Apart, places, roots}
use Rattle.ss_record.specs.Kinds.{is_folder}
use Rattle.ss_record.specs.Items.{empty_folder, is_fit}
use Rattle.ss_tree.specs.declared.entries.Entry.{Entry}
use Rattle.ss_tree.specs.declared.faults.TreeFault.{TreeFault}
use Rattle.ss_tree.specs.declared.faults.TreeFault.TheVariants.{NotFolder, Twice, BadPlace}
use Rattle.ss_tree.specs.declared.faults.MoveFault.{MoveFault}
use Rattle.ss_tree.specs.declared.faults.MoveFault.TheVariants.{Root, NotFolder as NoFolder, Under, BadPlace as NoPlace}
use Rattle.ss_tree.specs.declared.faults.RemoveFault.{RemoveFault}
use Rattle.ss_tree.specs.declared.faults.RemoveFault.TheVariants.{Root as Fixed, NotEmpty}
use Rattle.ss_tree.specs.Trees.{PlacedItem, Reaches}

-- the entry of a node
unfoldable pub entry : ℕ → List Entry → Option Entry
entry k es = find (λ e. k == e.node) es

-- the node is in the tree
abbrev pub is_live : ℕ → List Entry → Bool
is_live k es = is_some (entry k es)

-- the node of an id
unfoldable pub node_of : List ℕ → List Entry → Option ℕ
node_of x es = option_map (λ e. e.node) (find (λ e. bytes_eq x e.item.id) es)

-- the entry stands under the node k
abbrev pub stands_under : ℕ → Entry → Bool
stands_under k e = unwrap_or (option_map (λ p. k == p) e.parent) false

-- the nodes under k, in their order
unfoldable pub kids : ℕ → List Entry → List ℕ
kids k es = map (λ e. e.node) (filter (stands_under k) es)

-- their ids
unfoldable pub kid_ids : ℕ → List Entry → List (List ℕ)
kid_ids k es = map (λ e. e.item.id) (filter (stands_under k) es)

-- the node above k
unfoldable pub above : List Entry → ℕ → Option ℕ
above es k = option_and_then (λ e. e.parent) (entry k es)

-- one step up; the top where there is none
unfoldable pub up : List Entry → ℕ → ℕ
up es k = unwrap_or (above es k) 0

-- an entry as an item in its place
unfoldable pub placed : List Entry → Entry → PlacedItem
placed es e = record {
  id = e.item.id;
  kind = e.item.kind;
  content = e.item.content;
  parent = option_and_then (λ p. option_map (λ f. f.item.id) (entry p es)) e.parent;
  children = kid_ids e.node es;
  time = e.time;
}

-- the tree by ids
unfoldable pub tree : List Entry → List PlacedItem
tree es = map (placed es) es

-- no node stands twice
unfoldable pub NodesApart : List Entry → Type 0
NodesApart [] = ⊤
NodesApart (e ∷ es) = (entry e.node es ≡ None) × NodesApart es

-- the ids
unfoldable pub entry_ids : List Entry → List (List ℕ)
entry_ids es = map (λ e. e.item.id) es

-- `places`, whose node is 0
abbrev pub top_entry : Entry
top_entry = record { node = 0; parent = None; item = empty_folder places; time = 0 }

-- entries that are a valid tree; siblings stand in their order
pub record IsTree (es : List Entry) : Type 0 where
  -- no node and no id stands twice
  pub nodes : NodesApart es
  pub ids : Apart (entry_ids es)
  -- the top is `places`, and under it are the four roots in their order, which are folders
  pub top : entry 0 es ≡ Some top_entry
  pub under_top : kid_ids 0 es ≡ roots
  pub root_folder : (k : ℕ) (e : Entry) → entry k es ≡ Some e → e.parent ≡ Some 0 → is_folder e.item.kind ≡ true
  -- each other item stands under a folder
  pub folder : (k : ℕ) (e : Entry) → entry k es ≡ Some e → k ≢ 0 → (p : ℕ) × (e.parent ≡ Some p) × (f : Entry) × (entry p es ≡ Some f) × (is_folder f.item.kind ≡ true)
  -- the way up ends at the top
  pub reaches : (k : ℕ) (e : Entry) → entry k es ≡ Some e → Reaches (up es) 0 k

-- entries that are a tree, and a number above their nodes
pub record KeepsTree (es : List Entry) (next : ℕ) : Type 0 where
  pub is_tree : IsTree es
  pub below : (k : ℕ) → is_live k es ≡ true → k < next

-- ---- what the calls do

-- an entry under another parent
abbrev pub under : ℕ → Entry → Entry
under p e = record { node = e.node; parent = Some p; item = e.item; time = e.time }

-- an entry with another content and time
abbrev pub revised_entry : List ℕ → ℕ → Entry → Entry
revised_entry content time e = record { node = e.node; parent = e.parent; item = record { id = e.item.id; kind = e.item.kind; content = content }; time = time }

-- whether the item of a node is fit with this content
unfoldable pub is_fit_with : List ℕ → ℕ → List Entry → Bool
is_fit_with content k es = unwrap_or (option_map (λ e. is_fit (record { id = e.item.id; kind = e.item.kind; content = content })) (entry k es)) false

-- x at its place before b, or last
abbrev pub put_before : Option ℕ → ℕ → List ℕ → List ℕ
put_before None x ks = ks ++ x ∷ []
put_before (Some b) x [] = x ∷ []
put_before (Some b) x (k ∷ ks) = if b == k then x ∷ k ∷ ks else k ∷ put_before (Some b) x ks

-- all but x
abbrev pub without_node : ℕ → List ℕ → List ℕ
without_node x ks = filter (λ k. not (x == k)) ks

-- the first of the list
abbrev pub first_of : List ℕ → Option ℕ
first_of [] = None
first_of (k ∷ ks) = Some k

-- the one after x
abbrev pub next_after : ℕ → List ℕ → Option ℕ
next_after x [] = None
next_after x (k ∷ ks) = if x == k then first_of ks else next_after x ks

-- the node n + 1 steps above k, where there is one
abbrev pub ancestor : List Entry → ℕ → ℕ → Option ℕ
ancestor es zero k = above es k
ancestor es (suc n) k = option_and_then (ancestor es n) (above es k)

-- k is below top: top is above it, however many steps
abbrev pub IsBelow : List Entry → ℕ → ℕ → Type 0
IsBelow es top k = (n : ℕ) × (ancestor es n k ≡ Some top)

-- top is met within n steps up, from where the last one led
abbrev pub is_met_above : List Entry → ℕ → ℕ → Option ℕ → Bool
is_met_above es top zero j = false
is_met_above es top (suc n) None = false
is_met_above es top (suc n) (Some j) = (top == j) || is_met_above es top n (above es j)

-- the test of it (`is_under` says that it is one): no way up is longer than the entries are many
unfoldable pub is_below : List Entry → ℕ → ℕ → Bool
is_below es top k = is_met_above es top (length es) (above es k)

-- the node, and those below it, n levels deep: each before its children, and these in their order
unfoldable pub preorder : List Entry → ℕ → ℕ → List ℕ
preorder es zero k = []
preorder es (suc n) k = k ∷ flat_map (preorder es n) (kids k es)

-- ---- refusals, the first that holds

-- a folder that may be given children
unfoldable pub takes_children : ℕ → List Entry → Bool
takes_children p es = not (p == 0) && unwrap_or (option_map (λ e. is_folder e.item.kind) (entry p es)) false

-- `places` or a root
unfoldable pub is_fixed : ℕ → List Entry → Bool
is_fixed k es = (k == 0) || unwrap_or (option_map (stands_under 0) (entry k es)) false

-- a place among the children of a parent: before one of them, or last
unfoldable pub is_place : ℕ → Option ℕ → List Entry → Bool
is_place parent None es = true
is_place parent (Some b) es = unwrap_or (option_map (stands_under parent) (entry b es)) false

unfoldable pub insert_fault : List Entry → ℕ → Option ℕ → List ℕ → Option TreeFault
insert_fault es parent before x =
    if not (takes_children parent es) then Some NotFolder
    else (if has x (entry_ids es) then Some Twice
    else (if not (is_place parent before es) then Some BadPlace else None))

-- the same node
abbrev pub is_node : ℕ → Option ℕ → Bool
is_node k None = false
is_node k (Some j) = k == j

unfoldable pub move_fault : List Entry → ℕ → ℕ → Option ℕ → Option MoveFault
move_fault es k parent before =
    if is_fixed k es then Some Root
    else (if not (takes_children parent es) then Some NoFolder
    else (if (k == parent) || is_below es k parent then Some Under
    else (if not (is_place parent before es) || is_node k before then Some NoPlace else None)))

unfoldable pub remove_fault : List Entry → ℕ → Option RemoveFault
remove_fault es k =
    if is_fixed k es then Some Fixed
    else (if is_some (first_of (kids k es)) then Some NotEmpty else None)

-- ---- a new tree

-- `places` and the four empty roots
abbrev pub new_entries : List Entry
new_entries =
    top_entry
    ∷ record { node = 1; parent = Some 0; item = empty_folder (codes "menu"); time = 0 }
    ∷ record { node = 2; parent = Some 0; item = empty_folder (codes "toolbar"); time = 0 }
    ∷ record { node = 3; parent = Some 0; item = empty_folder (codes "unfiled"); time = 0 }
    ∷ record { node = 4; parent = Some 0; item = empty_folder (codes "mobile"); time = 0 }
    ∷ []

-- the id of the item at a node
abbrev pub id_at : List Entry → ℕ → List ℕ
id_at es k = unwrap_or (option_map (λ e. e.item.id) (entry k es)) []
