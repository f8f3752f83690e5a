-- What the types of a reply say of its numbers and texts, and the kind of body that a client awaits.
use Rattle.std.specs.Prelude.{◌≡◌, ℕ, ◌^◌, ◌<◌, ◌≤◌, true, List, IfSome, All, ⊤}
use Rattle.std.specs.Int.Signed.{mag}
use Rattle.std.specs.Str.{IsUtf8}
use Rattle.ss_text.specs.Names.{is_id}
use Rattle.ss_text.specs.Time.{last_stamp}
use Rattle.ss_bso.specs.declared.rows.Row.{Row}
use Rattle.ss_bso.specs.declared.parts.Reason.{Reason}
use Rattle.ss_query.specs.declared.replies.Body.{Body}
use Rattle.ss_query.specs.declared.replies.Body.TheVariants.{Limits, Ids, Rows, Posted, Staged}
use Rattle.ss_query.specs.declared.replies.Reply.{Reply}
use Rattle.ss_hearing.specs.declared.answer.Awaited.{Awaited}
use Rattle.ss_hearing.specs.declared.answer.Awaited.TheVariants.{Configuration, FirstPage, LaterPage, AllIds, Staging}
use Rattle.ss_hearing.specs.declared.answer.Awaited.TheVariants.{Writing}

-- a row: an id in form, a time, a payload in UTF-8 and a sortindex of 32 bits
pub record IsTypedRow (row : Row) : Type 0 where
  pub id : is_id row.id ≡ true
  pub modified : row.modified ≤ last_stamp
  pub payload : IsUtf8 row.payload
  pub sortindex : IfSome row.sortindex (λ index. mag index < 2 ^ 31)

abbrev pub AreIds : List (List ℕ) → Type 0
AreIds ids = All (λ id. is_id id ≡ true) ids

abbrev pub HaveIds : List (List ℕ × Reason) → Type 0
HaveIds failed = All (λ failure. is_id failure.0 ≡ true) failed

-- the bodies that a sync client awaits; a batch's number is one that is given out
abbrev pub IsTypedBody : Body → Type 0
IsTypedBody (Ids ids) = AreIds ids
IsTypedBody (Rows rows) = All IsTypedRow rows
IsTypedBody (Posted time success failed) = (time ≤ last_stamp) × AreIds success × HaveIds failed
IsTypedBody (Staged batch success failed) = (1 ≤ batch) × (batch ≤ last_stamp) × AreIds success × HaveIds failed
IsTypedBody _ = ⊤

pub record IsTypedReply (reply : Reply) : Type 0 where
  pub next : IfSome reply.next (λ next. next < 2 ^ 64)
  pub body : IsTypedBody reply.body

-- the body is of the kind that is awaited
abbrev pub IsOfKind : Awaited → Body → Type 0
IsOfKind Configuration Limits = ⊤
IsOfKind FirstPage (Rows rows) = ⊤
IsOfKind LaterPage (Rows rows) = ⊤
IsOfKind AllIds (Ids ids) = ⊤
IsOfKind Staging (Staged batch success failed) = ⊤
IsOfKind Writing (Posted time success failed) = ⊤
IsOfKind awaited body = ⊥
