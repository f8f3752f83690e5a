-- What a shelf must have for changes to be applied without memory.
use Rattle.std.specs.Prelude.{◌≡◌, ℕ, ◌+◌, ◌-◌, ◌^◌, ◌<◌, ◌≤◌, List, [], ◌∷◌, length, map, filter, fold, cond, bytes_eq}
use Rattle.std.specs.Map.{lookup}
use Rattle.std.specs.Option.{option_map_or}
use Rattle.ss_bso.specs.declared.rows.Row.{Row}
use Rattle.ss_bso.specs.declared.changes.RowChange.{RowChange}
use Rattle.ss_bso.specs.declared.changes.RowChange.TheVariants as row
use Rattle.ss_bso.specs.Account.{is_alive}
use Rattle.ss_bso.specs.Changes.{row_changed}
use Rattle.ss_bso.specs.Limits.{rows_of}
use Rattle.ss_index.specs.declared.ready.ReadyRow.{ReadyRow}
use Rattle.ss_index.specs.declared.ready.ReadyRow.TheVariants as entry
use Rattle.ss_index.specs.Held.{HeldRows}
use Rattle.ss_bso.specs.Lists.{Each, Pairs}
use Rattle.ss_index.specs.declared.ready.Ready.{Ready}
use Rattle.ss_bso.specs.declared.changes.Changes.{Changes}
use Rattle.ss_index.specs.Shelved.{rows_in, rows_without, dropped_names}

-- the change that is ready
abbrev pub change_of : ReadyRow → RowChange
change_of (entry.Put key new) = row.Put new
change_of (entry.Drop collection id) = row.Drop collection id

abbrev pub changes_of : List ReadyRow → List RowChange
changes_of entries = map change_of entries

-- the key of a row that is put is its id
abbrev pub HasKey : ReadyRow → Type 0
HasKey (entry.Put key new) = key ≡ new.id
HasKey (entry.Drop collection id) = Unit {0}

-- how many more rows fit into a drawer without memory
abbrev pub spare_of : List ℕ → List (List ℕ × HeldRows) → ℕ
spare_of collection drawers = option_map_or (λ held. held.spare) (lookup (bytes_eq collection) drawers) 0

-- how many rows changes put into a collection
abbrev pub puts_in : List ℕ → List RowChange → ℕ
puts_in collection [] = 0
puts_in collection (row.Put new ∷ changes) = cond (bytes_eq collection new.collection) 1 0 + puts_in collection changes
puts_in collection (row.Drop name id ∷ changes) = puts_in collection changes

-- a row that is put is not earlier than a row of its collection
abbrev pub IsLast : List Row → RowChange → Type 0
IsLast rows (row.Put new) = Each (λ (other : Row). other.modified ≤ new.modified) (rows_of new.collection rows)
IsLast rows (row.Drop collection id) = Unit {0}

abbrev pub InTime : List Row → List RowChange → Type 0
InTime rows [] = Unit {0}
InTime rows (change ∷ changes) = IsLast rows change × InTime (row_changed rows change) changes

-- a change puts no row of a later time, or of an earlier one
abbrev pub NotLater : ℕ → RowChange → Type 0
NotLater time (row.Put new) = new.modified ≤ time
NotLater time (row.Drop collection id) = Unit {0}

abbrev pub NotEarlier : ℕ → RowChange → Type 0
NotEarlier time (row.Put new) = time ≤ new.modified
NotEarlier time (row.Drop collection id) = Unit {0}

-- the second puts no earlier row than the first
abbrev pub Sooner : RowChange → RowChange → Type 0
Sooner (row.Put new) other = NotEarlier new.modified other
Sooner (row.Drop collection id) other = Unit {0}

-- each row that changes put is no earlier than those of its collection, and than those that they put before
abbrev pub PutsInOrder : List Row → List RowChange → Type 0
PutsInOrder rows changes = Each (λ (change : RowChange). IsLast rows change) changes × Pairs Sooner changes

-- the time of the row that a change puts, or else this one
abbrev pub put_time : ℕ → RowChange → ℕ
put_time time (row.Put new) = new.modified
put_time time (row.Drop collection id) = time

-- there is room in the drawers, the counts fit, and the times rise
pub record CanChange (drawers : List (List ℕ × HeldRows)) (changes : List RowChange) : Type 0 where
  pub room : (collection : List ℕ) → puts_in collection changes ≤ spare_of collection drawers
  pub times : InTime (rows_in drawers) changes
  pub number : length (rows_in drawers) + length changes < 2 ^ 32 - 1

-- the rows once collections are dropped
abbrev pub rows_left : List (List ℕ) → List Row → List Row
rows_left names rows = fold rows_without rows names

-- what is ready can be applied without memory
pub record CanApply (ready : Ready) (drawers : List (List ℕ × HeldRows)) : Type 0 where
  pub keys : Each HasKey ready.rows.items
  pub room : (collection : List ℕ) → puts_in collection (changes_of ready.rows.items) ≤ spare_of collection drawers
  pub times : InTime (rows_left ready.dropped.items (filter (is_alive ready.moment) (rows_in drawers))) (changes_of ready.rows.items)
  pub number : length (rows_in drawers) + length (changes_of ready.rows.items) < 2 ^ 32 - 1

-- changes are ready on a shelf
pub record IsReady (ready : Ready) (changes : Changes) (drawers : List (List ℕ × HeldRows)) : Type 0 where
  pub moment : ready.moment ≡ changes.moment
  pub dropped : ready.dropped.items ≡ dropped_names changes.collections
  pub rows : changes_of ready.rows.items ≡ changes.rows
  pub can : CanApply ready drawers

-- the rows of a shelf after what is ready was applied: first those that have ended go, then collections are dropped, and then
-- rows are changed
abbrev pub rows_after_ready : Ready → List Row → List Row
rows_after_ready ready rows = fold row_changed (rows_left ready.dropped.items (filter (is_alive ready.moment) rows)) (changes_of ready.rows.items)
