-- How a tree lies in a list of cells.
use Rattle.std.specs.Prelude.{◌≡◌, ◌≢◌, ◌==◌, ◌<◌, ◌≤◌, ◌+◌, ℕ, zero, suc, List, [], ◌∷◌, length, Option, Some, None}
use Rattle.std.specs.Prelude.{Bool, false, option_map, unwrap_or, is_some, map, nat_lt, slice_index_or, if◌then◌else◌}
use Rattle.std.specs.List.{flat_map}
use Rattle.ss_tree.specs.declared.cells.Cell.{Cell}
use Rattle.ss_tree.specs.declared.cells.TheConstants.{END}
use Rattle.ss_record.specs.Ids.{places}
use Rattle.ss_record.specs.Items.{ItemView, empty_folder, is_fit}
use Rattle.ss_tree.specs.declared.entries.Entry.{Entry}
use Rattle.ss_tree.specs.Entries.{entry, kids, KeepsTree}
use Rattle.ss_list.specs.Chain.{times}
use Rattle.ss_list.specs.Links.{Becomes, Runs}
use Rattle.ss_list.proofs.Paths.{Path}

-- a cell of no node
abbrev pub blank : Cell
blank = record { parent = None; first = END; last = END; prev = END; next = END; item = None; time = 0 }

-- the cell of a place, or a blank one past the last
abbrev pub cell_at : List Cell → ℕ → Cell
cell_at cells k = slice_index_or cells k blank

-- a cell has this place, or it is `END`
abbrev pub IsPlace : List Cell → ℕ → Type 0
IsPlace cells k = k ≢ END → k < length cells

-- the place after a place among those under p, where the first comes after `END`
abbrev pub next_of : List Cell → ℕ → ℕ → ℕ
next_of cells p k = if k == END then (cell_at cells p).first else (cell_at cells k).next

-- the place before a place among those under p, where the last comes before `END`
abbrev pub prev_of : List Cell → ℕ → ℕ → ℕ
prev_of cells p k = if k == END then (cell_at cells p).last else (cell_at cells k).prev

-- a sibling's place, or the end
abbrev pub link_of : Option ℕ → ℕ
link_of before = unwrap_or before END

-- the entry that a cell stands for; none where it is blank
abbrev pub seat : ℕ → Cell → Option Entry
seat k cell = option_map (λ i. record { node = k; parent = cell.parent; item = i; time = cell.time }) cell.item

abbrev pub seat_at : List Cell → ℕ → Option Entry
seat_at cells k = seat k (cell_at cells k)

-- ---- what a change of links leaves

pub record SetsNext (old new : List Cell) (parent at to : ℕ) : Type 0 where
  pub long : length new ≡ length old
  pub next : Becomes (next_of old parent) (next_of new parent) at to
  pub next_else : (p k : ℕ) → p ≢ parent → (k ≢ END → k ≢ at) → next_of new p k ≡ next_of old p k
  pub prev : (p k : ℕ) → prev_of new p k ≡ prev_of old p k
  pub seats : (k : ℕ) → seat_at new k ≡ seat_at old k

pub record SetsPrev (old new : List Cell) (parent at to : ℕ) : Type 0 where
  pub long : length new ≡ length old
  pub prev : Becomes (prev_of old parent) (prev_of new parent) at to
  pub prev_else : (p k : ℕ) → p ≢ parent → (k ≢ END → k ≢ at) → prev_of new p k ≡ prev_of old p k
  pub next : (p k : ℕ) → next_of new p k ≡ next_of old p k
  pub seats : (k : ℕ) → seat_at new k ≡ seat_at old k

-- left and right are neighbours under a parent; no other link and no entry has changed
pub record Joins (old new : List Cell) (parent left right : ℕ) : Type 0 where
  pub long : length new ≡ length old
  pub next : Becomes (next_of old parent) (next_of new parent) left right
  pub prev : Becomes (prev_of old parent) (prev_of new parent) right left
  pub next_else : (p k : ℕ) → p ≢ parent → (k ≢ END → k ≢ left) → next_of new p k ≡ next_of old p k
  pub prev_else : (p k : ℕ) → p ≢ parent → (k ≢ END → k ≢ right) → prev_of new p k ≡ prev_of old p k
  pub seats : (k : ℕ) → seat_at new k ≡ seat_at old k

-- a node comes between the place before right and right: first the neighbour of the one, then of the other
pub record Attaches (old new : List Cell) (parent node right : ℕ) : Type 0 where
  pub middle : List Cell
  pub after_left : Joins old middle parent (prev_of old parent right) node
  pub before_right : Joins middle new parent node right

-- there is an item, and it is fit with this content
abbrev pub is_fit_item : List ℕ → Option ItemView → Bool
is_fit_item content o = unwrap_or (option_map (λ i. is_fit (record { id = i.id; kind = i.kind; content = content })) o) false

-- no link has changed
pub record SameLinks (old new : List Cell) : Type 0 where
  pub long : length new ≡ length old
  pub next : (p k : ℕ) → next_of new p k ≡ next_of old p k
  pub prev : (p k : ℕ) → prev_of new p k ≡ prev_of old p k

-- the place of a node that leaves leads to another one; no other link has changed
pub record Frees (old new : List Cell) (node vacant : ℕ) : Type 0 where
  pub long : length new ≡ length old
  pub leads : (cell_at new node).next ≡ vacant
  pub next : (p k : ℕ) → k ≢ node → next_of new p k ≡ next_of old p k
  pub prev : (p k : ℕ) → prev_of new p k ≡ prev_of old p k

-- an entry has its cell, which there was or is one more; no link has changed
pub record Seats (old new : List Cell) (e : Entry) : Type 0 where
  pub inside : e.node < length new
  pub longer : length old ≤ length new
  pub within : length new ≤ length old + 1
  pub again : e.node < length old → length new ≡ length old
  pub next : (p k : ℕ) → next_of new p k ≡ next_of old p k
  pub prev : (p k : ℕ) → prev_of new p k ≡ prev_of old p k
  pub seats : (k : ℕ) → seat_at new k ≡ (if k == e.node then Some e else seat_at old k)

-- ---- the entries that cells stand for

-- the places that steps lead through from a place on, up to the end, at most n
abbrev pub row : (ℕ → ℕ) → ℕ → ℕ → List ℕ
row step zero k = []
row step (suc n) k = if k == END then [] else k ∷ row step n (step k)

-- the numbers below n
abbrev pub down : ℕ → List ℕ
down zero = []
down (suc n) = n ∷ down n

-- the places under p, in the order of their links
abbrev pub row_of : List Cell → ℕ → List ℕ
row_of cells p = row (next_of cells p) (length cells) (cell_at cells p).first

-- an entry of a cell that is not blank
abbrev pub full_at : List Cell → ℕ → Entry
full_at cells k = record { node = k; parent = (cell_at cells k).parent; item = unwrap_or (cell_at cells k).item (empty_folder places); time = (cell_at cells k).time }

-- the top, and the rows of all places
abbrev pub order_of : List Cell → List ℕ
order_of cells = 0 ∷ flat_map (row_of cells) (down (length cells))

-- the entries of the nodes, where siblings stand in their order
unfoldable pub listing : List Cell → List Entry
listing cells = map (full_at cells) (order_of cells)

-- ---- how the cells lie

-- the cells have these entries, and each row is linked both ways
pub record Lies (cells : List Cell) (es : List Entry) : Type 0 where
  pub seats : (k : ℕ) → entry k es ≡ seat_at cells k
  pub rows : (p : ℕ) → Path (next_of cells p) (prev_of cells p) END (kids p es) END
  pub room : length cells < END

-- cells that are a tree
pub record IsLinkedTree (cells : List Cell) : Type 0 where
  pub kept : KeepsTree (listing cells) (length cells)
  pub lies : Lies cells (listing cells)

-- ---- the places that were left

-- how many blank cells have this place
abbrev pub blank_at : List Cell → ℕ → ℕ
blank_at cells k = if nat_lt k (length cells) then (if is_some (seat_at cells k) then 0 else 1) else 0

-- from the place that was left last, links lead through the blank cells, each once and no other, to the end
pub record Hangs (cells : List Cell) (vacant : ℕ) : Type 0 where
  pub left : List ℕ
  pub runs : Runs (λ k. (cell_at cells k).next) vacant left END
  pub each : (k : ℕ) → times k left ≡ blank_at cells k
