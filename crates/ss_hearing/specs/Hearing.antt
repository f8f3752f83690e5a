-- What a sync client hears in a response, by what it awaits (SyncStorage API 1.5; that a reply out of form is none is this
-- project's).
use Rattle.std.specs.Prelude.{ℕ, Bool, true, false, ◌&&◌, ◌==◌, if◌then◌else◌, List, Option, Some, None, option_map}
use Rattle.std.specs.Prelude.{option_and_then, unwrap_or, codes}
use Rattle.json.specs.Json.{Json}
use Rattle.ss_http.specs.declared.heard.Heard.{Heard}
use Rattle.ss_hearing.specs.declared.answer.Awaited.{Awaited}
use Rattle.ss_hearing.specs.declared.answer.Awaited.TheVariants.{Configuration, FirstPage, LaterPage, AllIds, Staging}
use Rattle.ss_hearing.specs.declared.answer.Awaited.TheVariants.{Writing}
use Rattle.ss_hearing.specs.declared.answer.Answer.{Answer}
use Rattle.ss_hearing.specs.declared.answer.Answer.TheVariants.{Configured, Paged, Listed, Held, Written, Failed}
use Rattle.ss_hearing.specs.declared.answer.Answer.TheVariants.{Changed, Refused, Unread}
use Rattle.ss_hearing.specs.Bodies.{json_of, stamp_in, ◌>>=◌}
use Rattle.ss_hearing.specs.Limits.{limits_of}
use Rattle.ss_hearing.specs.Lists.{rows_of, ids_of, next_of}
use Rattle.ss_hearing.specs.Posts.{failure_in, batch_in}

-- the status that is awaited: records that go to a batch are told 202
abbrev pub status_of : Awaited → ℕ
status_of Staging = 202
status_of Configuration = 200
status_of FirstPage = 200
status_of LaterPage = 200
status_of AllIds = 200
status_of Writing = 200

-- whether what was asked has the condition that nothing has changed
abbrev pub is_conditional : Awaited → Bool
is_conditional Configuration = false
is_conditional FirstPage = false
is_conditional LaterPage = true
is_conditional AllIds = true
is_conditional Staging = true
is_conditional Writing = true

-- the time that a response says, 0 where it says none
abbrev pub time_of : Heard → ℕ
time_of heard = unwrap_or heard.modified 0

-- another status than the awaited one: something has changed, or the request is refused
abbrev pub unawaited_answer : Awaited → Heard → Answer
unawaited_answer awaited heard = if is_conditional awaited && (heard.status == 412) then Changed (time_of heard) else Refused heard.status

-- a page with the time of the collection
abbrev pub page_of : Heard → ℕ → Json → Option Answer
page_of heard time d = do
  rows ← rows_of d
  next ← next_of heard.next
  Some (Paged rows next time)

-- what a POST is told, or its first failed record
abbrev pub answer_or_failure : ℕ → Option (List ℕ) → Answer → Answer
answer_or_failure status None answer = answer
answer_or_failure status (Some id) answer = Failed status id

abbrev pub held_of : Json → Option Answer
held_of d = do
  failure ← failure_in d
  batch ← batch_in d
  Some (answer_or_failure 202 failure (Held batch))

abbrev pub written_of : Json → Option Answer
written_of d = do
  failure ← failure_in d
  time ← stamp_in (codes "modified") d
  Some (answer_or_failure 200 failure (Written time))

-- what a body in the form that is awaited says. A first page must say the collection's time.
unfoldable pub understood : Awaited → Heard → Json → Option Answer
understood Configuration heard d = option_map Configured (limits_of d)
understood FirstPage heard d = option_and_then (λ time. page_of heard time d) heard.modified
understood LaterPage heard d = page_of heard (time_of heard) d
understood AllIds heard d = option_map Listed (ids_of d)
understood Staging heard d = held_of d
understood Writing heard d = written_of d

-- the answer that a response is; one with the awaited status that isn't in form is no answer
unfoldable pub answer_of : Awaited → Heard → Answer
answer_of awaited heard =
    if heard.status == status_of awaited then unwrap_or (option_and_then (understood awaited heard) (json_of heard.body)) Unread else unawaited_answer awaited heard
