-- The rows of a shelf, and how its drawers and counts fit together.
use Rattle.std.specs.Prelude.{◌≡◌, ℕ, Bool, true, not, filter, filter_map, Option, Some, None, List, [], ◌∷◌, ◌++◌}
use Rattle.std.specs.Prelude.{length, bytes_eq, IsFalse}
use Rattle.std.specs.Map.{keys_of}
use Rattle.ss_bso.specs.declared.rows.Row.{Row}
use Rattle.ss_bso.specs.declared.changes.CollectionChange.{CollectionChange}
use Rattle.ss_bso.specs.declared.changes.CollectionChange.TheVariants as collection
use Rattle.ss_bso.specs.Limits.{row_bytes}
use Rattle.ss_index.specs.Held.{HeldRows, some_rows, HasCountablePayload}
use Rattle.ss_bso.specs.Lists.{Each, Pairs}
use Rattle.ss_index.specs.Sweep.{Outlives}

-- the rows of all collections
abbrev pub rows_in : List (List ℕ × HeldRows) → List Row
rows_in [] = []
rows_in (drawer ∷ drawers) = drawer.1.rows ++ rows_in drawers

-- each drawer has the rows of its collection alone
abbrev pub NamesDrawers : List (List ℕ × HeldRows) → Type 0
NamesDrawers drawers = Each (λ (drawer : List ℕ × HeldRows). Each (λ (row : Row). row.collection ≡ drawer.0) drawer.1.rows) drawers

-- no two drawers are of one collection
abbrev pub NamesApart : List (List ℕ) → Type 0
NamesApart names = Pairs (λ (name other : List ℕ). IsFalse (bytes_eq other name)) names

-- a drawer for each collection, what the counts count, sizes that can be counted, and a moment before which no row ends
pub record IsShelf (drawers : List (List ℕ × HeldRows)) (len total ends : ℕ) : Type 0 where
  pub named : NamesDrawers drawers
  pub names : NamesApart (keys_of drawers)
  pub len_counts : len ≡ length (rows_in drawers)
  pub total_counts : total ≡ row_bytes (rows_in drawers)
  pub sizes : Each HasCountablePayload (rows_in drawers)
  pub outlive : Each (Outlives ends) (rows_in drawers)

-- whether a drawer has a row
abbrev pub has_rows : List ℕ × HeldRows → Bool
has_rows drawer = some_rows drawer.1.rows

-- no collection stands in the shelf without a row
abbrev pub NoneEmpty : List (List ℕ × HeldRows) → Type 0
NoneEmpty drawers = Each (λ (drawer : List ℕ × HeldRows). has_rows drawer ≡ true) drawers

-- the rows without those of a collection
abbrev pub rows_without : List Row → List ℕ → List Row
rows_without rows name = filter (λ row. not (bytes_eq row.collection name)) rows

-- the name of a collection that a change drops
abbrev pub dropped_name : CollectionChange → Option (List ℕ)
dropped_name (collection.Drop name) = Some name
dropped_name (collection.Set name time) = None

-- the names of the collections that changes drop
abbrev pub dropped_names : List CollectionChange → List (List ℕ)
dropped_names changes = filter_map dropped_name changes
