-- When a request is refused, and with what.
use Rattle.std.specs.Prelude.{ℕ, Bool, true, false, List, [], ◌++◌, Option, Some, None, unwrap_or, IsSome, is_some}
use Rattle.std.specs.Prelude.{nat_lt, IsTrue}
use Rattle.std.specs.Option.{option_map_or}
use Rattle.ss_text.specs.declared.stamps.Cond.{Cond}
use Rattle.ss_bso.specs.declared.parts.Part.{Part}
use Rattle.ss_bso.specs.declared.account.Plain.{Plain}
use Rattle.ss_bso.specs.declared.account.Staged.{Staged}
use Rattle.ss_bso.specs.Account.{row_at, time_of}
use Rattle.ss_bso.specs.Batches.{batch_in, fit}
use Rattle.ss_query.specs.declared.requests.Request.{Request}
use Rattle.ss_query.specs.declared.requests.Request.TheVariants.{Info, DeleteAll, List as ListOf, Post}
use Rattle.ss_query.specs.declared.requests.Request.TheVariants.{DeleteCollection, DeleteIds, Get, Put, Delete}
use Rattle.ss_query.specs.declared.requests.Mode.{Mode}
use Rattle.ss_query.specs.declared.requests.Mode.TheVariants.{Plain as PlainPost, Begin, Append, Commit}
use Rattle.ss_query.specs.declared.replies.Body.{Body}
use Rattle.ss_query.specs.declared.replies.Body.TheVariants.{Empty, Code, Said}
use Rattle.ss_query.specs.declared.replies.Said.TheVariants.{Item, Modified, Batches, Batch, Clock}

-- the condition of a request
abbrev pub condition_of : Request → Cond
condition_of (Info what cond) = cond
condition_of (DeleteAll cond) = cond
condition_of (ListOf collection query cond) = cond
condition_of (Post collection records mode cond) = cond
condition_of (DeleteCollection collection cond) = cond
condition_of (DeleteIds collection ids cond) = cond
condition_of (Get collection id cond) = cond
condition_of (Put collection id fields cond) = cond
condition_of (Delete collection id cond) = cond

-- the same request under another condition
abbrev pub with_condition : Cond → Request → Request
with_condition cond (Info what _) = Info what cond
with_condition cond (DeleteAll _) = DeleteAll cond
with_condition cond (ListOf collection query _) = ListOf collection query cond
with_condition cond (Post collection records mode _) = Post collection records mode cond
with_condition cond (DeleteCollection collection _) = DeleteCollection collection cond
with_condition cond (DeleteIds collection ids _) = DeleteIds collection ids cond
with_condition cond (Get collection id _) = Get collection id cond
with_condition cond (Put collection id fields _) = Put collection id fields cond
with_condition cond (Delete collection id _) = Delete collection id cond

-- the time of a collection, or of the last deletion where the collection is absent
abbrev pub collection_time : Plain → List ℕ → ℕ
collection_time account collection = unwrap_or (time_of collection account.collections) account.last_delete

-- the time of an item, or 0 where it is absent
abbrev pub item_time : Plain → List ℕ → List ℕ → ℕ
item_time account collection id = option_map_or (λ row. row.modified) (row_at collection id account.rows) 0

-- the time of a request's target
abbrev pub target_time : Plain → Request → ℕ
target_time account (Info what cond) = account.store
target_time account (DeleteAll cond) = account.store
target_time account (ListOf collection query cond) = collection_time account collection
target_time account (Post collection records mode cond) = collection_time account collection
target_time account (DeleteCollection collection cond) = collection_time account collection
target_time account (DeleteIds collection ids cond) = collection_time account collection
target_time account (Get collection id cond) = item_time account collection id
target_time account (Put collection id fields cond) = item_time account collection id
target_time account (Delete collection id cond) = item_time account collection id

-- whether a collection is listed
abbrev pub is_listed : Plain → List ℕ → Bool
is_listed account collection = is_some (time_of collection account.collections)

-- whether an item is there
abbrev pub has_item : Plain → List ℕ → List ℕ → Bool
has_item account collection id = is_some (row_at collection id account.rows)

-- whether the target of a request is there: an account whose time isn't 0, a collection that is listed, an item that has a row
abbrev pub is_there : Plain → Request → Bool
is_there account (Info what cond) = nat_lt 0 account.store
is_there account (DeleteAll cond) = nat_lt 0 account.store
is_there account (ListOf collection query cond) = is_listed account collection
is_there account (Post collection records mode cond) = is_listed account collection
is_there account (DeleteCollection collection cond) = is_listed account collection
is_there account (DeleteIds collection ids cond) = is_listed account collection
is_there account (Get collection id cond) = has_item account collection id
is_there account (Put collection id fields cond) = has_item account collection id
is_there account (Delete collection id cond) = has_item account collection id

-- the live batch of this number and collection
abbrev pub batch_of : Plain → List ℕ → ℕ → Option Staged
batch_of account collection number = batch_in collection number account.batches

-- the parts of the live batch of this number and collection
abbrev pub staged_parts : Plain → List ℕ → ℕ → List Part
staged_parts account collection number = option_map_or (λ batch. batch.parts) (batch_of account collection number) []

-- a batch is live for a collection
abbrev pub IsLive : Plain → List ℕ → ℕ → Type 0
IsLive account collection number = IsSome (batch_of account collection number)

-- the parts of a batch and further parts fit
abbrev pub Fits : Plain → List ℕ → ℕ → List Part → Type 0
Fits account collection number parts = IsTrue (fit (staged_parts account collection number ++ parts))

-- the batch that a request continues, if it does
abbrev pub continued_batch : Mode → Option ℕ
continued_batch PlainPost = None
continued_batch Begin = None
continued_batch (Append number) = Some number
continued_batch (Commit number) = Some number

-- whether a POST begins a batch
abbrev pub begins : Mode → Bool
begins Begin = true
begins _ = false

-- why a request is refused: its item isn't there, its condition stops it, no batch may begin or its batch isn't live or
-- gets too large, no later stamp is left, or the account gets too large
pub data Refusal : Type 0 where
  NoItem : Refusal
  NotModified : Refusal
  WasModified : Refusal
  NoMoreBatches : Refusal
  NoBatch : Refusal
  BatchFull : Refusal
  ClockEnded : Refusal
  AccountFull : Refusal

-- the status of a refusal
abbrev pub status_of : Refusal → ℕ
status_of NoItem = 404
status_of NotModified = 304
status_of WasModified = 412
status_of NoMoreBatches = 400
status_of NoBatch = 400
status_of BatchFull = 400
status_of ClockEnded = 503
status_of AccountFull = 403

-- the body of a refusal
abbrev pub said_by : Refusal → Body
said_by NoItem = Said Item
said_by NotModified = Empty
said_by WasModified = Said Modified
said_by NoMoreBatches = Said Batches
said_by NoBatch = Said Batch
said_by BatchFull = Code 17
said_by ClockEnded = Said Clock
said_by AccountFull = Code 14

-- a refusal by the condition shows the target's time
abbrev pub time_shown : Refusal → ℕ → Option ℕ
time_shown NotModified time = Some time
time_shown WasModified time = Some time
time_shown _ time = None
