-- Cells from a list of entries.
use Rattle.std.specs.Prelude.{◌==◌, if◌then◌else◌, ◌≡◌, ◌<◌, ℕ, List, [], ◌∷◌, ◌++◌, length, Option, Some, None, IfSome}
use Rattle.std.specs.Prelude.{get_or}
use Rattle.ss_tree.specs.declared.cells.Cell.{Cell}
use Rattle.ss_tree.specs.declared.cells.TheConstants.{END}
use Rattle.ss_tree.specs.Cells.{Attaches, IsPlace, SameLinks, prev_of, seat_at}
use Rattle.ss_tree.specs.declared.entries.Entry.{Entry}
use Rattle.ss_tree.specs.Entries.{top_entry}

-- the cell of an entry in no row and with no row
abbrev pub lone : Entry → Cell
lone e = record { parent = e.parent; first = END; last = END; prev = END; next = END; item = Some e.item; time = e.time }

-- the parent of the entry, and the last node under it, have cells
abbrev pub HasParent : List Cell → Option ℕ → Type 0
HasParent cells None = Unit {0}
HasParent cells (Some p) = (p < length cells) × IsPlace cells (prev_of cells p END)

abbrev pub IsReady : List Cell → Entry → Type 0
IsReady cells e = HasParent cells e.parent

-- the new cells have one more, in its place
abbrev pub AddsUnder : List Cell → List Cell → Entry → Option ℕ → Type 0
AddsUnder old new e None = new ≡ old ++ lone e ∷ []
AddsUnder old new e (Some p) = Attaches (old ++ lone e ∷ []) new p (length old) END

abbrev pub Adds : List Cell → List Cell → Entry → Type 0
Adds old new e = AddsUnder old new e e.parent

-- each entry stands at its node's number, after its parent
abbrev pub AreAtTheirNodes : List Entry → Type 0
AreAtTheirNodes es = (i : ℕ) → i < length es → ((get_or es i top_entry).node ≡ i) × IfSome (get_or es i top_entry).parent (λ p. p < i)

-- a node is last under its parent, where it has one
abbrev pub PutsUnder : List Cell → List Cell → ℕ → Option ℕ → Type 0
PutsUnder old new k None = new ≡ old
PutsUnder old new k (Some p) = Attaches old new p k END

-- an entry is put into its cell, and then into its row
pub record Places (old new : List Cell) (e : Entry) : Type 0 where
  pub middle : List Cell
  pub links : SameLinks old middle
  pub seats : (k : ℕ) → seat_at middle k ≡ (if k == e.node then Some e else seat_at old k)
  pub under : PutsUnder middle new e.node e.parent
