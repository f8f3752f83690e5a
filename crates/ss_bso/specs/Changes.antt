-- What is kept of an account, and what changes make of it.
use Rattle.std.specs.Prelude.{ℕ, Bool, not, ◌==◌, max, List, [], ◌∷◌, ◌++◌, map, filter, filter_map, fold, bytes_eq}
use Rattle.std.specs.Prelude.{Option, Some, None}
use Rattle.std.specs.List.{list_any}
use Rattle.ss_bso.specs.declared.rows.Row.{Row}
use Rattle.ss_bso.specs.declared.account.Plain.{Plain}
use Rattle.ss_bso.specs.declared.account.Staged.{Staged}
use Rattle.ss_bso.specs.declared.changes.Kept.{Kept}
use Rattle.ss_bso.specs.declared.changes.Changes.{Changes}
use Rattle.ss_bso.specs.declared.changes.RowChange.{RowChange}
use Rattle.ss_bso.specs.declared.changes.RowChange.TheVariants as row
use Rattle.ss_bso.specs.declared.changes.CollectionChange.{CollectionChange}
use Rattle.ss_bso.specs.declared.changes.CollectionChange.TheVariants as collection
use Rattle.ss_bso.specs.declared.changes.BatchChange.{BatchChange}
use Rattle.ss_bso.specs.declared.changes.BatchChange.TheVariants as batch
use Rattle.ss_bso.specs.Account.{is_alive, is_at, tick}
use Rattle.ss_bso.specs.Batches.{grown}
use Rattle.ss_bso.specs.Write.{times_with}

-- what is kept of an account that nothing was asked of
abbrev pub fresh_kept : Kept
fresh_kept = record { rows = []; collections = []; store = 0; last_delete = 0; counter = 0; batches = [] }

-- what is kept of an account: all but its moment
abbrev pub kept_of : Plain → Kept
kept_of account = record {
  rows = account.rows;
  collections = account.collections;
  store = account.store;
  last_delete = account.last_delete;
  counter = account.counter;
  batches = account.batches;
}

-- the latest of a time and of the begins of batches
abbrev pub latest : ℕ → List Staged → ℕ
latest time batches = fold (λ moment batch. max moment batch.begun) time batches

-- the account that what is kept stands for: its moment is the latest of the store's time and the begins of the batches
abbrev pub plain_of : Kept → Plain
plain_of kept = record {
  rows = kept.rows;
  collections = kept.collections;
  store = kept.store;
  last_delete = kept.last_delete;
  moment = latest kept.store kept.batches;
  counter = kept.counter;
  batches = kept.batches;
}

-- the account that is opened from what is kept: the one that it stands for, when the clock reads 0
abbrev pub account_at_opening : Kept → Plain
account_at_opening kept = tick (plain_of kept) 0

-- the rows without the one of a collection and id
abbrev pub rows_but : List ℕ → List ℕ → List Row → List Row
rows_but collection id rows = filter (λ row. not (is_at collection id row)) rows

-- the rows after one was put in its place, or one went
abbrev pub row_changed : List Row → RowChange → List Row
row_changed rows (row.Put new) = rows_but new.collection new.id rows ++ new ∷ []
row_changed rows (row.Drop collection id) = rows_but collection id rows

-- whether a change drops a collection
abbrev pub drops : List ℕ → CollectionChange → Bool
drops name (collection.Drop dropped) = bytes_eq dropped name
drops name (collection.Set set time) = Bool.false

-- the collections after one got a time
abbrev pub time_changed : List (List ℕ × ℕ) → CollectionChange → List (List ℕ × ℕ)
time_changed times (collection.Set name time) = times_with name time times
time_changed times (collection.Drop name) = times

-- whether a change ends a batch
abbrev pub ends : ℕ → BatchChange → Bool
ends number (batch.End ended) = ended == number
ends number (batch.Begin new) = Bool.false
ends number (batch.Append grown_number parts) = Bool.false

-- the batch that a change begins
abbrev pub begun_by : BatchChange → Option Staged
begun_by (batch.End number) = None
begun_by (batch.Begin new) = Some new
begun_by (batch.Append number parts) = None

-- the batches after parts were appended to one
abbrev pub batch_grown : List Staged → BatchChange → List Staged
batch_grown batches (batch.End number) = batches
batch_grown batches (batch.Begin new) = batches
batch_grown batches (batch.Append number parts) = map (grown number parts) batches

-- the batches after changes: first those go that end, then those come that begin, and then parts are appended
abbrev pub batches_changed : List Staged → List BatchChange → List Staged
batches_changed batches changes =
    fold batch_grown (filter (λ staged. not (list_any (ends staged.number) changes)) batches ++ filter_map begun_by changes) changes

-- what is kept after changes: first the rows that have ended go, then the collections that are dropped, with their rows;
-- then rows are changed, then collections get their times, and then batches are changed
abbrev pub kept_after_changes : Kept → Changes → Kept
kept_after_changes kept changes = record {
  rows = fold row_changed (filter (λ row. not (list_any (drops row.collection) changes.collections)) (filter (is_alive changes.moment) kept.rows)) changes.rows;
  collections = fold time_changed (filter (λ entry. not (list_any (drops entry.0) changes.collections)) kept.collections) changes.collections;
  store = changes.store;
  last_delete = changes.last_delete;
  counter = changes.counter;
  batches = batches_changed kept.batches changes.batches;
}
