-- The responses to replies (SyncStorage API 1.5), and what a client hears of them.
use Rattle.std.specs.Prelude.{ℕ, ◌^◌, ◌<◌, ◌≤◌, Bool, true, false, ◌&&◌, ◌==◌, List, [], length, Option, Some, None}
use Rattle.std.specs.Prelude.{IfSome, if◌then◌else◌}
use Rattle.ss_text.specs.Time.{last_stamp}
use Rattle.ss_query.specs.declared.replies.Body.{Body}
use Rattle.ss_query.specs.declared.replies.Body.TheVariants.{Ids, Rows}
use Rattle.ss_query.specs.declared.replies.Reply.{Reply}
use Rattle.ss_query.specs.declared.replies.Said.TheVariants as words
use Rattle.ss_http.specs.declared.fault.MsgFault.{MsgFault}
use Rattle.ss_http.specs.declared.fault.MsgFault.TheVariants as faults
use Rattle.ss_http.specs.declared.heard.Heard.{Heard}
use Rattle.ss_http.specs.declared.response.ResponseHead.{ResponseHead}
use Rattle.ss_http.specs.Limits.{most_heard_bytes}
use Rattle.ss_http.specs.Hearing as hearing
use Rattle.ss_http.specs.Responses.{response, reason_of}
use Rattle.ss_route.specs.declared.routed.Local.{Local}
use Rattle.ss_route.specs.Refusals.{local_with_word}
use Rattle.ss_route.specs.Texts.{body_text}

-- a list, which alone may be told an element a line
abbrev pub is_list : Body → Bool
is_list (Ids ids) = true
is_list (Rows rows) = true
is_list _ = false

-- the body of a response; a 304 has none
abbrev pub content : ℕ → Bool → Body → List ℕ
content status newlines body = if status == 304 then [] else body_text newlines body

-- the head of the response to a reply; `newlines` is the form that lists are asked in, `last` closes the connection
abbrev pub head_of : Reply → Bool → Bool → ResponseHead
head_of reply newlines last = record {
  status = reply.status;
  moment = reply.moment;
  modified = reply.modified;
  count = reply.count;
  next = reply.next;
  allow = None;
  newlines = newlines && is_list reply.body;
  last = last;
}

-- the response to a reply
abbrev pub wire : Reply → Bool → Bool → List ℕ
wire reply newlines last = response (head_of reply newlines last) (content reply.status newlines reply.body)

-- the response to a message that no account is asked for, at a moment
abbrev pub local_head : Local → ℕ → Bool → ResponseHead
local_head local moment last =
    record { status = local.status; moment = moment; modified = None; count = None; next = None; allow = local.allow; newlines = false; last = last }

abbrev pub local_wire : Local → ℕ → Bool → List ℕ
local_wire local moment last = response (local_head local moment last) (content local.status false local.body)

-- what a client hears of a reply
abbrev pub heard_of : Reply → Bool → Bool → Heard
heard_of reply newlines last = hearing.heard_of_response (head_of reply newlines last) (content reply.status newlines reply.body)

-- the numbers of a reply are within their types
pub record IsReply (reply : Reply) : Type 0 where
  pub moment : reply.moment ≤ last_stamp
  pub modified : IfSome reply.modified (λ time. time ≤ last_stamp)
  pub count : IfSome reply.count (λ count. count < 2 ^ 64)
  pub next : IfSome reply.next (λ next. next < 2 ^ 64)

-- a status that has a reason
abbrev pub HasReason : ℕ → Type 0
HasReason status = 0 < length (reason_of status)

-- the body of the response to a reply is one that a client reads
abbrev pub IsHeardWhole : Reply → Bool → Type 0
IsHeardWhole reply newlines = length (content reply.status newlines reply.body) ≤ most_heard_bytes

-- what a message is told whose account isn't listed
abbrev pub not_listed : Local
not_listed = local_with_word 401 words.Account

-- what is told where bytes are no message; nothing where the input ended or failed, or memory did
abbrev pub refusal_of : MsgFault → Option Local
refusal_of faults.End = None
refusal_of faults.Cut = None
refusal_of faults.BadHead = Some (local_with_word 400 words.Head)
refusal_of faults.HeadTooLong = Some (local_with_word 400 words.Head)
refusal_of faults.Coded = Some (local_with_word 411 words.Length)
refusal_of faults.BadLength = Some (local_with_word 400 words.Length)
refusal_of (faults.TooLarge n) = Some (local_with_word 413 words.Size)
refusal_of faults.ReadFault = None
refusal_of faults.Memory = None
