-- A write that is ready: what it makes of the account, and what a keeper is told of it.
use Rattle.std.specs.Prelude.{◌≡◌, ℕ, ◌+◌, ◌≤◌, length, option_to_list, true, false, List, [], ◌∷◌, ◌++◌, map, filter}
use Rattle.std.specs.Prelude.{not, bytes_eq, Option, Some, None, IfSome, IsSome, IsFalse, All, AllPairs, ⊤}
use Rattle.ss_bso.specs.declared.rows.Row.{Row}
use Rattle.ss_bso.specs.declared.parts.Part.{Part}
use Rattle.ss_bso.specs.declared.account.Plain.{Plain}
use Rattle.ss_bso.specs.declared.account.Staged.{Staged}
use Rattle.ss_bso.specs.declared.changes.Changes.{Changes}
use Rattle.ss_bso.specs.declared.changes.RowChange.{RowChange}
use Rattle.ss_bso.specs.declared.changes.RowChange.TheVariants.{Put as PutRow, Drop as DropRow}
use Rattle.ss_bso.specs.declared.changes.CollectionChange.{CollectionChange}
use Rattle.ss_bso.specs.declared.changes.CollectionChange.TheVariants.{Set as SetTime, Drop as DropName}
use Rattle.ss_bso.specs.declared.changes.BatchChange.{BatchChange}
use Rattle.ss_bso.specs.declared.changes.BatchChange.TheVariants.{End as EndBatch, Begin as BeginBatch}
use Rattle.ss_bso.specs.declared.changes.BatchChange.TheVariants.{Append as AppendParts}
use Rattle.ss_bso.specs.Account.{is_at}
use Rattle.ss_bso.specs.Batches.{batches_without, batches_elsewhere}
use Rattle.ss_bso.specs.Limits.{most_rows_and_collections}
use Rattle.ss_bso.specs.Write.{rows_without, times_with, times_without}
use Rattle.ss_batch.specs.Stage.{live_batch}
use Rattle.ss_query.specs.declared.replies.Body.{Body}
use Rattle.ss_query.specs.Effect.{is_over}
use Rattle.ss_writes.specs.declared.pending.Pending.{Pending}
use Rattle.ss_writes.specs.declared.pending.Pending.TheVariants.{Put, Cut, DropCollection, DropAll}

-- the rows after a write
abbrev pub rows_left : Pending → List Row → List Row
rows_left (Put collection targets made batch) rows = rows_without collection targets rows ++ made.items
rows_left (Cut collection targets) rows = rows_without collection targets rows
rows_left (DropCollection collection) rows = filter (λ row. not (bytes_eq row.collection collection)) rows
rows_left DropAll rows = []

-- the collections after a write at a time
abbrev pub times_left : ℕ → Pending → List (List ℕ × ℕ) → List (List ℕ × ℕ)
times_left time (Put collection targets made batch) times = times_with collection time times
times_left time (Cut collection targets) times = times_with collection time times
times_left time (DropCollection collection) times = times_without collection times
times_left time DropAll times = []

-- batches without one, if it is named
abbrev pub batches_but : Option ℕ → List Staged → List Staged
batches_but None batches = batches
batches_but (Some number) batches = batches_without number batches

-- the batches after a write
abbrev pub batches_left : Pending → List Staged → List Staged
batches_left (Put collection targets made batch) batches = batches_but batch batches
batches_left (Cut collection targets) batches = batches
batches_left (DropCollection collection) batches = batches_elsewhere collection batches
batches_left DropAll batches = []

-- the time of the last deletion after a write at a time
abbrev pub deletion_left : ℕ → Pending → ℕ → ℕ
deletion_left time (Put collection targets made batch) last_delete = last_delete
deletion_left time (Cut collection targets) last_delete = last_delete
deletion_left time (DropCollection collection) last_delete = time
deletion_left time DropAll last_delete = time

-- the account after a write at a time
abbrev pub account_after_pending : Plain → ℕ → Pending → Plain
account_after_pending account time pending = record {
  rows = rows_left pending account.rows;
  collections = times_left time pending account.collections;
  store = time;
  last_delete = deletion_left time pending account.last_delete;
  moment = time;
  counter = account.counter;
  batches = batches_left pending account.batches;
}

-- an account without a batch, if one is named
abbrev pub without_batch : Option ℕ → Plain → Plain
without_batch batch account = record account { batches = batches_but batch account.batches }

-- what becomes of rows
abbrev pub row_changes : Pending → List RowChange
row_changes (Put collection targets rows batch) = map PutRow rows.items
row_changes (Cut collection targets) = map (DropRow collection) targets
row_changes (DropCollection collection) = []
row_changes DropAll = []

-- what becomes of collections
abbrev pub collection_changes : ℕ → Pending → List (List ℕ × ℕ) → List CollectionChange
collection_changes time (Put collection targets made batch) times = SetTime collection time ∷ []
collection_changes time (Cut collection targets) times = SetTime collection time ∷ []
collection_changes time (DropCollection collection) times = DropName collection ∷ []
collection_changes time DropAll times = map (λ entry. DropName entry.0) times

-- the numbers of batches
abbrev pub numbers_of : List Staged → List ℕ
numbers_of batches = map (λ batch. batch.number) batches

-- the numbers of the batches that a write ends
abbrev pub ended_by : Pending → List Staged → List ℕ
ended_by (Put collection targets made batch) batches = option_to_list batch
ended_by (Cut collection targets) batches = []
ended_by (DropCollection collection) batches = numbers_of (filter (λ batch. bytes_eq batch.collection collection) batches)
ended_by DropAll batches = numbers_of batches

-- what a keeper is told of a write at a time, and of the batches that ended before it
abbrev pub changes_to : Plain → List ℕ → ℕ → Pending → Changes
changes_to account ended time pending = record {
  moment = account.moment;
  rows = row_changes pending;
  collections = collection_changes time pending account.collections;
  store = time;
  last_delete = deletion_left time pending account.last_delete;
  counter = account.counter;
  batches = map EndBatch (ended ++ ended_by pending account.batches);
}

-- what a keeper is told of a begin, an append and the end of a batch, and of the batches that ended before it
abbrev pub batch_changes : Plain → List ℕ → ℕ → BatchChange → Changes
batch_changes account ended counter change = record {
  moment = account.moment;
  rows = [];
  collections = [];
  store = account.store;
  last_delete = account.last_delete;
  counter = counter;
  batches = map EndBatch ended ++ change ∷ [];
}

-- what a keeper is told of a begin, and of an append
abbrev pub begin_changes : Plain → List ℕ → List ℕ → List Part → Changes
begin_changes account ended collection parts =
    batch_changes account ended (account.counter + 1) (BeginBatch (record { number = account.counter + 1; collection = collection; begun = account.moment; parts = parts }))

abbrev pub append_changes : Plain → List ℕ → ℕ → List Part → Changes
append_changes account ended number parts = batch_changes account ended account.counter (AppendParts number parts)

-- the batch that a write ends
abbrev pub batch_ended : Pending → Option ℕ
batch_ended (Put collection targets made batch) = batch
batch_ended _ = None

-- rows that are put at a time are one for each id, in one collection, no two at one place, not too many, and the batch that they
-- end is live
pub record IsPutReady (account : Plain) (time : ℕ) (collection : List ℕ) (targets : List (List ℕ)) (rows : List Row) (batch : Option ℕ) : Type 0 where
  pub ids : map (λ row. row.id) rows ≡ targets
  pub here : All (λ row. row.collection ≡ collection) rows
  pub apart : AllPairs (λ row other. IsFalse (is_at row.collection row.id other)) rows
  pub stamped : All (λ row. row.modified ≡ time) rows
  pub few : length rows ≤ most_rows_and_collections
  pub live : IfSome batch (λ number. IsSome (live_batch number account.batches))

abbrev pub IsReady : Plain → ℕ → Pending → Type 0
IsReady account time (Put collection targets rows batch) = IsPutReady account time collection targets rows.items batch
IsReady account time (Cut collection targets) = length targets ≤ most_rows_and_collections
IsReady account time _ = ⊤

-- a write is ready that makes another account, or that would pass the limits
abbrev pub Settles : Plain → ℕ → Plain → Option Pending → Type 0
Settles account time after None = is_over after ≡ true
Settles account time after (Some pending) = (is_over after ≡ false) × (account_after_pending account time pending ≡ after) × IsReady account time pending

-- the same, with what is told of the write
abbrev pub Tells : Plain → ℕ → Plain → Body → Option (Pending × Body) → Type 0
Tells account time after body None = is_over after ≡ true
Tells account time after body (Some found) =
    (is_over after ≡ false) × (account_after_pending account time found.0 ≡ after) × IsReady account time found.0 × (found.1 ≡ body)
