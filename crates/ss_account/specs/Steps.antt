-- The parts of a step: what is counted, and what a write comes to.
use Rattle.std.specs.Prelude.{◌≡◌, ◌≢◌, ℕ, min, Bool, ◌&&◌, nat_le, List, [], ◌∷◌, ◌++◌, length, Option, Some, None}
use Rattle.std.specs.Prelude.{Result, Err}
use Rattle.ss_text.specs.Time.{last_stamp}
use Rattle.ss_bso.specs.declared.rows.Row.{Row}
use Rattle.ss_bso.specs.declared.account.Plain.{Plain}
use Rattle.ss_bso.specs.declared.parts.Part.{Part}
use Rattle.ss_bso.specs.declared.parts.Fields.{Fields}
use Rattle.ss_query.specs.declared.replies.Picked.{Picked}
use Rattle.ss_bso.specs.Batches.{batches_without}
use Rattle.ss_bso.specs.Write.{ids_of, write}
use Rattle.ss_keeper.specs.declared.calls.KeeperCalls.{KeeperCalls}
use Rattle.ss_keeper.specs.declared.faults.KeepFault.{KeepFault}
use Rattle.ss_keeper.specs.declared.faults.KeepFault.TheVariants.{Memory}
use Rattle.ss_keeper.specs.Calls.{with_commit}
use Rattle.ss_query.specs.declared.requests.Request.{Request}
use Rattle.ss_bso.specs.declared.parts.Records.{Records}
use Rattle.ss_batch.specs.Stage.{StageView, most_counted}
use Rattle.ss_batch.specs.declared.faults.StageFault.{StageFault}
use Rattle.ss_batch.specs.declared.faults.StageFault.TheVariants.{TooManyRecords, TooManyBytes}
use Rattle.ss_query.specs.declared.replies.Body.{Body}
use Rattle.ss_query.specs.declared.replies.Body.TheVariants.{Code, Said, Staged}
use Rattle.ss_query.specs.declared.replies.Said.TheVariants.{Batch}
use Rattle.ss_query.specs.declared.replies.Reply.{Reply}
use Rattle.ss_bso.specs.Limits.{row_bytes}
use Rattle.ss_query.specs.Refused.{Refusal, NoMoreBatches, NoBatch, BatchFull, ClockEnded, AccountFull, staged_parts}
use Rattle.ss_query.specs.Effect.{effect, is_write, is_over}
use Rattle.ss_query.specs.Told.{first_failures, rows_body}
use Rattle.ss_query.specs.Api.{first_some, where_so, lacks_room, misses_batch, overfills_batch}
use Rattle.ss_account.specs.declared.infos.Measure.{Measure}
use Rattle.ss_account.specs.declared.infos.Measure.TheVariants as measure

-- what is counted of rows, as far as it can be counted
abbrev pub counted_rows : Measure → List Row → ℕ
counted_rows measure.Records rows = length rows
counted_rows measure.Bytes rows = min (row_bytes rows) most_counted

-- what is counted of rows
abbrev pub number_of : Measure → List Row → ℕ
number_of measure.Records rows = length rows
number_of measure.Bytes rows = row_bytes rows

-- the refusals by batch
abbrev pub batch_cause : Plain → Request → Option Refusal
batch_cause account request = first_some (
    where_so (lacks_room account request) NoMoreBatches
    ∷ where_so (misses_batch account request) NoBatch
    ∷ where_so (overfills_batch account request) BatchFull
    ∷ [])

-- the refusals that come after those by item, condition and batch
abbrev pub late_refusal : Plain → Request → Option Refusal
late_refusal account request = first_some (
    where_so (is_write account request && nat_le last_stamp account.store) ClockEnded
    ∷ where_so (is_write account request && is_over (effect account request)) AccountFull
    ∷ [])

-- an account's batches as a stage, and an account with those of a stage
abbrev pub stage_of : Plain → StageView
stage_of account = record { counter = account.counter; batches = account.batches }

abbrev pub with_stage : Plain → StageView → Plain
with_stage account stage = record account { counter = stage.counter; batches = stage.batches }

-- the body against a request that continues a batch
abbrev pub fault_body : StageFault → Body
fault_body (TooManyRecords n) = Code 17
fault_body (TooManyBytes n) = Code 17
fault_body _ = Said Batch

-- the account after the commit of a batch with further parts
abbrev pub account_after_commit : Plain → List ℕ → List Part → ℕ → ℕ → Plain
account_after_commit account collection parts number time =
    record (write account collection (staged_parts account collection number ++ parts) time) { batches = batches_without number account.batches }

-- a reply that tells no list
abbrev pub plain_reply : ℕ → ℕ → Option ℕ → Body → Reply
plain_reply moment status modified body = record { status = status; moment = moment; modified = modified; count = None; next = None; body = body }

-- the reply to a begin and an append
abbrev pub staged_reply : ℕ → ℕ → ℕ → Records → Reply
staged_reply moment time batch records =
    plain_reply moment 202 (Some time) (Staged batch (ids_of records.parts) (first_failures records.failed))

-- the parts of a PUT
abbrev pub one_part : List ℕ → Fields → List Part
one_part id fields = record { id = id; fields = fields } ∷ []

-- the reply to a list
abbrev pub list_reply : ℕ → ℕ → Picked → Bool → Reply
list_reply moment time picked full = record { status = 200; moment = moment; modified = Some time; count = Some (length picked.rows); next = picked.next; body = rows_body full picked.rows }

-- a keeper was called once, to make changes; where memory is wanting, once at most
pub record HasAsked {T : Type 0} (before now : KeeperCalls) (result : Result T KeepFault) : Type 0 where
  pub once : result ≢ Err Memory → now ≡ with_commit before
  pub most : now ≢ before → now ≡ with_commit before
