-- What a sync client asks of the bookmarks, and what it is told (SyncStorage API 1.5).
use Rattle.std.specs.Prelude.{ℕ, ◌<◌, ◌&&◌, ◌==◌, Bool, List, [], ◌∷◌, map, nat_lt, bytes_eq, true, false, Option, Some}
use Rattle.std.specs.Prelude.{None, unwrap_or, if◌then◌else◌, All, ⊤}
use Rattle.ss_text.specs.declared.stamps.Cond.TheVariants.{Free, IfUnmodified}
use Rattle.std.specs.Option.{option_map_or}
use Rattle.ss_bso.specs.declared.rows.Row.{Row}
use Rattle.ss_bso.specs.declared.parts.Part.{Part}
use Rattle.ss_bso.specs.declared.parts.Records.{Records}
use Rattle.ss_bso.specs.declared.parts.Reason.{Reason}
use Rattle.ss_bso.specs.Limits.{most_record_payload_bytes, most_post_records, most_post_bytes, most_batch_records}
use Rattle.ss_bso.specs.Limits.{most_batch_bytes}
use Rattle.ss_http.specs.Limits.{most_body_bytes}
use Rattle.ss_query.specs.declared.requests.Info.TheVariants.{Configuration}
use Rattle.ss_query.specs.declared.requests.Mode.TheVariants.{Plain, Begin, Append, Commit}
use Rattle.ss_query.specs.declared.requests.Request.{Request}
use Rattle.ss_query.specs.declared.requests.Request.TheVariants.{Info, DeleteAll, List as ListOf, Post}
use Rattle.ss_query.specs.declared.requests.Request.TheVariants.{DeleteCollection, DeleteIds, Get, Put, Delete}
use Rattle.ss_query.specs.declared.replies.Body.{Body}
use Rattle.ss_query.specs.declared.replies.Body.TheVariants.{Limits, Ids, Rows, Posted, Staged}
use Rattle.ss_query.specs.declared.replies.Reply.{Reply}
use Rattle.ss_route.specs.Sending.{IsUpload, page, all_ids}
use Rattle.ss_plan.specs.declared.limits.Limits.{Limits as Most}
use Rattle.ss_hearing.specs.declared.answer.Awaited.{Awaited}
use Rattle.ss_hearing.specs.declared.answer.Awaited.TheVariants as awaited
use Rattle.ss_hearing.specs.declared.answer.Answer.{Answer}
use Rattle.ss_hearing.specs.declared.answer.Answer.TheVariants.{Configured, Paged, Listed, Held, Written, Changed}
use Rattle.ss_hearing.specs.declared.answer.Answer.TheVariants.{Refused, Unread}
use Rattle.ss_hearing.specs.Hearing.{status_of, is_conditional, answer_or_failure}
use Rattle.ss_serving.specs.Bookmarks.{bookmarks, sheet_of}

-- what is asked: the limits; a first page; where nothing has changed since a time, a further page and the ids of all rows; and
-- under that condition a POST, alone, the first of a batch, a further one, or the last
pub data Ask : Type 0 where
  Configure : Ask
  FirstPage : (since : Option ℕ) → Ask
  NextPage : (since : Option ℕ) (condition offset : ℕ) → Ask
  ListIds : (condition : ℕ) → Ask
  PostAll : (condition : ℕ) (parts : List Part) → Ask
  PostFirst : (condition : ℕ) (parts : List Part) → Ask
  PostNext : (condition batch : ℕ) (parts : List Part) → Ask
  PostLast : (condition batch : ℕ) (parts : List Part) → Ask

-- the records of a POST, none of which failed
abbrev pub records_of : List Part → Records
records_of parts = record { parts = parts; failed = [] }

-- the request
abbrev pub request_of : Ask → Request
request_of Configure = Info Configuration Free
request_of (FirstPage since) = ListOf bookmarks (page since 0) Free
request_of (NextPage since condition offset) = ListOf bookmarks (page since offset) (IfUnmodified condition)
request_of (ListIds condition) = ListOf bookmarks all_ids (IfUnmodified condition)
request_of (PostAll condition parts) = Post bookmarks (records_of parts) Plain (IfUnmodified condition)
request_of (PostFirst condition parts) = Post bookmarks (records_of parts) Begin (IfUnmodified condition)
request_of (PostNext condition batch parts) = Post bookmarks (records_of parts) (Append batch) (IfUnmodified condition)
request_of (PostLast condition batch parts) = Post bookmarks (records_of parts) (Commit batch) (IfUnmodified condition)

-- the kind of reply that is awaited
abbrev pub awaited_of : Ask → Awaited
awaited_of Configure = awaited.Configuration
awaited_of (FirstPage since) = awaited.FirstPage
awaited_of (NextPage since condition offset) = awaited.LaterPage
awaited_of (ListIds condition) = awaited.AllIds
awaited_of (PostAll condition parts) = awaited.Writing
awaited_of (PostFirst condition parts) = awaited.Staging
awaited_of (PostNext condition batch parts) = awaited.Staging
awaited_of (PostLast condition batch parts) = awaited.Writing

-- What a client may ask of an account that had this many batches when it was opened: it goes on with no batch that was there
-- then, and puts payloads alone.
abbrev pub IsAskable : ℕ → Ask → Type 0
IsAskable first Configure = ⊤
IsAskable first (FirstPage since) = ⊤
IsAskable first (NextPage since condition offset) = ⊤
IsAskable first (ListIds condition) = ⊤
IsAskable first (PostAll condition parts) = All IsUpload parts
IsAskable first (PostFirst condition parts) = All IsUpload parts
IsAskable first (PostNext condition batch parts) = (first < batch) × All IsUpload parts
IsAskable first (PostLast condition batch parts) = (first < batch) × All IsUpload parts

-- ---- what a reply says

-- the limits that a server tells
abbrev pub our_limits : Most
our_limits = record {
  max_request_bytes = most_body_bytes;
  max_post_records = most_post_records;
  max_post_bytes = most_post_bytes;
  max_total_records = most_batch_records;
  max_total_bytes = most_batch_bytes;
  max_record_payload_bytes = most_record_payload_bytes;
}

-- the id of the record that failed first
abbrev pub first_failed : List (List ℕ × Reason) → Option (List ℕ)
first_failed [] = None
first_failed (failure ∷ failures) = Some failure.0

-- the next offset of a page, if there is one, has at most 9 digits
abbrev pub is_offset : Option ℕ → Bool
is_offset None = true
is_offset (Some offset) = nat_lt offset 1000000000

-- a page of rows
abbrev pub page_told : Option ℕ → List Row → ℕ → Answer
page_told next rows time = if is_offset next then Paged (map sheet_of rows) next time else Unread

-- what a reply of the awaited status says; a first page has to tell the collection's time
abbrev pub said_by : Awaited → Reply → Body → Answer
said_by awaited.Configuration reply Limits = Configured our_limits
said_by awaited.FirstPage reply (Rows rows) = option_map_or (λ time. page_told reply.next rows time) reply.modified Unread
said_by awaited.LaterPage reply (Rows rows) = page_told reply.next rows (unwrap_or reply.modified 0)
said_by awaited.AllIds reply (Ids ids) = Listed ids
said_by awaited.Staging reply (Staged batch success failed) = answer_or_failure 202 (first_failed failed) (Held batch)
said_by awaited.Writing reply (Posted time success failed) = answer_or_failure 200 (first_failed failed) (Written time)
said_by awaited reply body = Unread

-- What a reply says to a client that awaits this, the status first. It is what the client hears in the response to it.
unfoldable pub told_by : Awaited → Reply → Answer
told_by awaited reply =
    if reply.status == status_of awaited then said_by awaited reply reply.body
    else (if is_conditional awaited && (reply.status == 412) then Changed (unwrap_or reply.modified 0) else Refused reply.status)

-- ---- what others ask

-- whether a request may change the bookmarks
abbrev pub touches : Request → Bool
touches (Info what cond) = false
touches (DeleteAll cond) = true
touches (ListOf collection query cond) = false
touches (Post collection records mode cond) = bytes_eq bookmarks collection
touches (DeleteCollection collection cond) = bytes_eq bookmarks collection
touches (DeleteIds collection ids cond) = bytes_eq bookmarks collection
touches (Get collection id cond) = false
touches (Put collection id fields cond) = bytes_eq bookmarks collection
touches (Delete collection id cond) = bytes_eq bookmarks collection
