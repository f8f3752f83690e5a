-- Requests that can be sent.
use Rattle.std.specs.Prelude.{◌≤◌, length, All, ⊤}
use Rattle.ss_bso.specs.Limits.{part_bytes, most_record_payload_bytes, most_post_records, most_post_bytes}
use Rattle.ss_bso.specs.Limits.{most_batch_records}
use Rattle.ss_plan.specs.declared.limits.Limits.{Limits}
use Rattle.ss_plan.specs.Refusals.{payload_bytes}
use Rattle.ss_route.specs.Sending.{IsUpload}
use Rattle.ss_hearing.specs.declared.answer.Answer.{Answer}
use Rattle.ss_hearing.specs.declared.answer.Answer.TheVariants.{Configured}
use Rattle.ss_client.specs.declared.runs.Run.{Run}
use Rattle.ss_client.specs.declared.runs.Stage.{Stage}
use Rattle.ss_client.specs.declared.runs.Stage.TheVariants.{Asks, Opens, Pages, Lists, Uploads}
use Rattle.ss_client.specs.Leaves.{UploadView}
use Rattle.ss_client.specs.Runs.{post_of}
use Rattle.ss_client.specs.Machine.{Next, Send, Done, Stop}

-- limits of a POST, and of the records of a batch, that are no greater than ours
pub record AreOurs (limits : Limits) : Type 0 where
  pub records : limits.max_post_records ≤ most_post_records
  pub bytes : limits.max_post_bytes ≤ most_post_bytes
  pub payload : limits.max_record_payload_bytes ≤ most_record_payload_bytes
  pub total : limits.max_total_records ≤ most_batch_records

-- the limits that an answer tells, if it tells any, are no greater than ours
abbrev pub TellsOurs : Answer → Type 0
TellsOurs (Configured limits) = AreOurs limits
TellsOurs _ = ⊤

-- an upload whose parts set their payloads, none too large, and whose POST is within the limits of one
pub record CanUpload (u : UploadView) : Type 0 where
  pub uploads : All IsUpload u.parts
  pub small : All (λ p. payload_bytes p ≤ most_record_payload_bytes) u.parts
  pub few : length (post_of u) ≤ most_post_records
  pub short : part_bytes (post_of u) ≤ most_post_bytes

abbrev pub CanGo : Stage → Type 0
CanGo Asks = ⊤
CanGo Opens = ⊤
CanGo (Pages p) = ⊤
CanGo (Lists l) = ⊤
CanGo (Uploads u) = CanUpload u

-- a run at a stage whose request can be sent
abbrev pub IsSound : Run → Stage → Type 0
IsSound run stage = AreOurs run.limits × CanGo stage

abbrev pub IsSoundNext : Next → Type 0
IsSoundNext (Send run stage) = IsSound run stage
IsSoundNext (Done device summary) = ⊤
IsSoundNext (Stop fault) = ⊤
