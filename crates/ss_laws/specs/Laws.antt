-- Laws of the one-account API, over whole lists of requests.
use Rattle.std.specs.Prelude.{All, AllPairs, IsFalse, ◌≡◌, ◌≢◌, ◌<◌, ◌≤◌, ◌↔◌, ℕ, nat_lt, None, Bool, true, false, not}
use Rattle.std.specs.Prelude.{◌||◌, is_some, List, IsTrue}
use Rattle.std.specs.List.{AllZip}
use Rattle.std.specs.Option.{option_map_or}
use Rattle.ss_text.specs.Texts.{IsReordering, sorted}
use Rattle.ss_text.specs.Time.{last_stamp, stops}
use Rattle.ss_text.specs.declared.stamps.Cond.{Cond}
use Rattle.ss_text.specs.declared.stamps.Cond.TheVariants.{IfAbsent, IfUnmodified}
use Rattle.ss_bso.specs.declared.rows.Row.{Row}
use Rattle.ss_bso.specs.declared.parts.Part.{Part}
use Rattle.ss_bso.specs.declared.parts.Records.{Records}
use Rattle.ss_bso.specs.declared.account.Plain.{Plain}
use Rattle.ss_bso.specs.Account.{tick, row_at}
use Rattle.ss_bso.specs.Validity.{IsWithinLimits, SameAccount}
use Rattle.ss_bso.specs.Write.{rows_written, put_all, parts_of}
use Rattle.ss_query.specs.declared.requests.Request.{Request}
use Rattle.ss_query.specs.declared.requests.Request.TheVariants.{Post}
use Rattle.ss_query.specs.declared.requests.Mode.TheVariants.{Commit}
use Rattle.ss_query.specs.declared.requests.Sort.{Sort}
use Rattle.ss_query.specs.Answer.{comes_before}
use Rattle.ss_query.specs.Refused.{begins, continued_batch, with_condition, target_time, collection_time, is_there}
use Rattle.ss_query.specs.Refused.{is_listed}
use Rattle.ss_query.specs.Refused.{IsLive, Fits}
use Rattle.ss_query.specs.Effect.{effect, is_write}
use Rattle.ss_query.specs.Api.{api, refusal, Outcome}
use Rattle.ss_query.specs.Flat.{Ask, Turn, after_all, turns, flat}

-- whether a request is of a batch: a begin, an append or a commit
abbrev pub is_of_batch : Request → Bool
is_of_batch (Post collection records mode cond) = begins mode || is_some (continued_batch mode)
is_of_batch _ = false

-- whether an ask is of no batch
abbrev pub is_outside : Ask → Bool
is_outside ask = option_map_or (λ request. not (is_of_batch request)) ask.request true

-- the same rows, collections, store time, last deletion and moment
pub record ShowsSame (account other : Plain) : Type 0 where
  pub rows : account.rows ≡ other.rows
  pub collections : account.collections ≡ other.collections
  pub store : account.store ≡ other.store
  pub last_delete : account.last_delete ≡ other.last_delete
  pub moment : account.moment ≡ other.moment

-- no two batches have one number, and each number was given out
pub record HaveCountedBatches (account : Plain) : Type 0 where
  pub numbers : AllPairs (λ batch other. batch.number ≢ other.number) account.batches
  pub counted : All (λ batch. batch.number ≤ account.counter) account.batches

-- the batch law, of an opening and a list of asks
pub record BatchLaw (opening : Plain) (asks : List Ask) : Type 0 where
  -- the accounts after the list and after the flat list show the same
  pub account : ShowsSame (after_all opening asks) (after_all opening (flat opening asks))
  -- the lists are as long, and each request that isn't of a batch stands in both with the same reply
  pub replies : AllZip (λ (turn plain : Turn). IsTrue (is_outside turn.ask) → plain ≡ turn) (turns opening asks) (turns opening (flat opening asks))

-- a commit may be done: its condition holds, its batch is live for the collection, the parts fit, and where it writes
-- there is a later stamp and the account stays within its limits
pub record MayCommit (account : Plain) (collection : List ℕ) (records : Records) (number : ℕ) (cond : Cond) : Type 0 where
  pub condition : stops cond (is_listed account collection) (collection_time account collection) ≡ None
  pub live : IsLive account collection number
  pub fits : Fits account collection number records.parts
  pub clock : is_write account (Post collection records (Commit number) cond) ≡ true → account.store < last_stamp
  pub room : is_write account (Post collection records (Commit number) cond) ≡ true → IsWithinLimits (effect account (Post collection records (Commit number) cond))

-- a commit is answered 200 exactly where it may be done once the clock has ticked
abbrev pub CommitLaw : Plain → ℕ → List ℕ → Records → ℕ → Cond → Type 0
CommitLaw account now collection records number cond =
    ((api account now (Post collection records (Commit number) cond)).reply.status ≡ 200)
    ↔ MayCommit (tick account now) collection records number cond

-- the condition that a target isn't there: it stops a request exactly where its target is there, and is the condition that
-- nothing has changed since 0 where the target is there exactly if it has a time after 0. Nothing else lies between the
-- two: a target that isn't there and has a later time is a collection that isn't listed, after a deletion
pub record AbsenceLaw (account : Plain) (now : ℕ) (request : Request) : Type 0 where
  pub stops : ((api account now (with_condition IfAbsent request)).reply.status ≡ 412) ↔ (is_there (tick account now) request ≡ true)
  pub unmodified : is_there (tick account now) request ≡ nat_lt 0 (target_time (tick account now) request)
      → api account now (with_condition IfAbsent request) ≡ api account now (with_condition (IfUnmodified 0) request)

-- what a write makes of the times: the store's time rises, and the moment is the store's time
pub record Rises (before after : Plain) : Type 0 where
  pub store : before.store < after.store
  pub moment : after.moment ≡ after.store

-- stamps: a write that is done has a later time than each before it, nothing else has a time, and the moment never falls
pub record StampLaw (account : Plain) (now : ℕ) (request : Request) : Type 0 where
  pub write : is_write (tick account now) request ≡ true → refusal (tick account now) request ≡ None → Rises account (api account now request).account
  pub quiet : is_write (tick account now) request ≡ false → (api account now request).account.store ≡ account.store
  pub moment : account.moment ≤ (api account now request).account.moment

-- a request that is no write does nothing: what it leaves shows the same as what the clock leaves, and is that where it is of no batch
pub record QuietLaw (account : Plain) (now : ℕ) (request : Request) : Type 0 where
  pub shown : ShowsSame (tick account now) (api account now request).account
  pub outside : is_of_batch request ≡ false → (api account now request).account ≡ tick account now

-- an account and a reply, whatever the order of the account's lists
pub record SameOutcome (one other : Outcome) : Type 0 where
  pub account : SameAccount one.account other.account
  pub reply : one.reply ≡ other.reply

-- A write of a list, read at a place: in its collection a place has what the parts that name its id make of the old row, one after the
-- other in list order, and so the old row itself where no part names it; every other place has its old row.
pub record WriteLaw (collection : List ℕ) (parts : List Part) (time : ℕ) (rows : List Row) : Type 0 where
  pub here : (id : List ℕ) → row_at collection id (rows_written collection parts time rows) ≡ put_all collection (parts_of id parts) time (row_at collection id rows)
  pub elsewhere : (other id : List ℕ) → other ≢ collection → row_at other id (rows_written collection parts time rows) ≡ row_at other id rows

-- the order of an answer: the same rows, and none that comes before an earlier one
pub record SortLaw (sort : Sort) (rows : List Row) : Type 0 where
  pub same : IsReordering rows (sorted (comes_before sort) rows)
  pub in_order : AllPairs (λ row other. IsFalse (comes_before sort other row)) (sorted (comes_before sort) rows)
