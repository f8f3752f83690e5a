-- Runs whose requests are within what a server reads of one message (this project).
use Rattle.std.specs.Prelude.{ℕ, ◌≤◌, List, [], ◌∷◌, length, All, Option, IfSome, ⊤}
use Rattle.ss_bso.specs.declared.parts.Part.{Part}
use Rattle.ss_http.specs.Limits.{most_body_bytes}
use Rattle.ss_route.specs.Sending.{uploads_text}
use Rattle.ss_hearing.specs.declared.answer.Answer.{Answer}
use Rattle.ss_hearing.specs.declared.answer.Answer.TheVariants.{Configured, Paged, Held}
use Rattle.ss_client.specs.declared.runs.Run.{Run}
use Rattle.ss_client.specs.declared.runs.Stage.{Stage}
use Rattle.ss_client.specs.declared.runs.Stage.TheVariants.{Asks, Opens, Pages, Lists, Uploads}
use Rattle.ss_client.specs.Leaves.{UploadView}
use Rattle.ss_client.specs.Machine.{Next, Send, Done, Stop}
use Rattle.ss_client.specs.Runs.{post_of}

-- a body with these parts is within one message
abbrev pub IsOneBody : List Part → Type 0
IsOneBody parts = length (uploads_text parts) ≤ most_body_bytes

-- a batch's number that is given out, where there is a batch
abbrev pub IsNumber : Option ℕ → Type 0
IsNumber batch = IfSome batch (λ number. (1 ≤ number) × (number ≤ 999999999999))

-- the batch has a number, and the POST and each part alone are within one message
pub record IsReadableUpload (u : UploadView) : Type 0 where
  pub number : IsNumber u.batch
  pub lone : All (λ part. IsOneBody (part ∷ [])) u.parts
  pub post : IsOneBody (post_of u)

-- what is asked at a stage is readable
abbrev pub GoesReadably : Stage → Type 0
GoesReadably Asks = ⊤
GoesReadably Opens = ⊤
GoesReadably (Pages p) = p.offset ≤ 999999999
GoesReadably (Lists l) = ⊤
GoesReadably (Uploads u) = IsReadableUpload u

-- and at the stages behind it, since the server's limit of a body is no greater than ours
abbrev pub IsReadableRun : Run → Stage → Type 0
IsReadableRun run stage = (run.limits.max_request_bytes ≤ most_body_bytes) × GoesReadably stage

abbrev pub IsReadableNext : Next → Type 0
IsReadableNext (Send run stage) = IsReadableRun run stage
IsReadableNext (Done device summary) = ⊤
IsReadableNext (Stop fault) = ⊤

-- the limit of a body that an answer tells is no greater than ours, its offset has at most 9 digits, and its batch a number
abbrev pub TellsReadable : Answer → Type 0
TellsReadable (Configured limits) = limits.max_request_bytes ≤ most_body_bytes
TellsReadable (Paged rows next time) = IfSome next (λ offset. offset ≤ 999999999)
TellsReadable (Held batch) = (1 ≤ batch) × (batch ≤ 999999999999)
TellsReadable _ = ⊤
