-- What a client hears in the response to a reply is what the reply says.
use Rattle.std.proofs.Common.{◌≡◌, ℕ, ◌^◌, ◌<◌, ◌≤◌, ◌==◌, inl, inr, Bool, true, false, cond, List, map, Option, Some}
use Rattle.std.proofs.Common.{None, option_map, option_and_then, decimal, refl, sym, ap, ap₂, ◌∙◌, arith}
use Rattle.std.specs.Prelude.{IfSome, unwrap_or, All}
use Rattle.std.proofs.lemmas.List.Elements.{recursion_from_All}
use Rattle.std.proofs.lemmas.Bool.{eqb-true, cases_lt, lt-ltb, le-ltb}
use Rattle.json.specs.Json.{Json}
use Rattle.json.specs.Tree.{depth}
use Rattle.std.specs.Option.{option_map_or}
use Rattle.ss_record.specs.declared.readings.Sheet.{Sheet}
use Rattle.ss_text.specs.Names.{is_id}
use Rattle.ss_http.specs.declared.heard.Heard.{Heard}
use Rattle.ss_bso.specs.declared.rows.Row.{Row}
use Rattle.ss_bso.specs.declared.parts.Reason.{Reason}
use Rattle.ss_query.specs.declared.replies.Body.{Body}
use Rattle.ss_query.specs.declared.replies.Body.TheVariants.{Limits, Ids, Rows, Posted, Staged}
use Rattle.ss_query.specs.declared.replies.Reply.{Reply}
use Rattle.ss_route.specs.Posts.{token, batch_of}
use Rattle.ss_route.specs.Texts.{body_text}
use Rattle.ss_route.specs.Wire.{content, heard_of}
use Rattle.ss_hearing.specs.declared.answer.Awaited.{Awaited}
use Rattle.ss_hearing.specs.declared.answer.Awaited.TheVariants.{Configuration, FirstPage, LaterPage, AllIds, Staging}
use Rattle.ss_hearing.specs.declared.answer.Awaited.TheVariants.{Writing}
use Rattle.ss_hearing.specs.declared.answer.Answer.{Answer}
use Rattle.ss_hearing.specs.declared.answer.Answer.TheVariants.{Configured, Paged, Listed, Held, Written, Unread}
use Rattle.ss_hearing.specs.Bodies.{json_of, ◌>>=◌}
use Rattle.ss_hearing.specs.Lists.{next_of}
use Rattle.ss_hearing.specs.Hearing.{answer_of, understood, status_of, answer_or_failure, page_of}
use Rattle.ss_bso.specs.declared.account.Plain.{Plain}
use Rattle.ss_bso.specs.Account.{tick}
use Rattle.ss_query.specs.Refused.{Refusal, NoItem, NotModified, WasModified, NoMoreBatches, NoBatch, BatchFull}
use Rattle.ss_query.specs.Refused.{ClockEnded, AccountFull}
use Rattle.ss_query.specs.Refused.{status_of as refused_with}
use Rattle.ss_query.specs.Api.{api, outcome, refusal}
use Rattle.ss_serving.specs.Asking.{Ask, Configure, NextPage, ListIds, PostAll, PostFirst, PostNext, PostLast}
use Rattle.ss_serving.specs.Asking.{request_of, awaited_of}
use Rattle.ss_serving.specs.Asking.{FirstPage as AskFirst}
use Rattle.ss_serving.specs.Asking.{told_by, said_by, page_told}
use Rattle.ss_serving.specs.Bookmarks.{sheet_of}
use Rattle.ss_serving.specs.Typed.{IsTypedReply, IsTypedBody, IsTypedRow, IsOfKind}
use Rattle.ss_serving.proofs.JsonTexts.{json_text}
use Rattle.ss_serving.proofs.Bodies.{rows_json, ids_json, posted_json, staged_json, limits_json, rows_are, ids_are}
use Rattle.ss_serving.proofs.Bodies.{posted_is, staged_is, limits_are}
use Rattle.ss_serving.proofs.Clean.{IsClean, json_of-text}
use Rattle.ss_serving.proofs.Tokens.{token_unescaped, token_utf8}
use Rattle.ss_serving.proofs.Understood.{rows_are_heard, rows_clean, rows_depth, ids_are_heard, ids_clean, ids_depth}
use Rattle.ss_serving.proofs.Understood.{posted_clean, posted_depth, staged_clean, staged_depth, posted_failure}
use Rattle.ss_serving.proofs.Understood.{staged_failure, posted_time, staged_batch, offset_heard, offset_unread}
use Rattle.ss_serving.proofs.Understood.{limits_heard, limits_clean}

-- what is heard in a body, once it is known which JSON value it is
heard_in : (awaited : Awaited) (heard : Heard) (j : Json) (answer : Answer) → heard.body ≡ json_text j → IsClean j → depth j ≤ 128
    → unwrap_or (understood awaited heard j) Unread ≡ answer
    → unwrap_or (option_and_then (understood awaited heard) (json_of heard.body)) Unread ≡ answer
heard_in awaited heard j answer is clean shallow says =
    ap (λ b. unwrap_or (option_and_then (understood awaited heard) (json_of b)) Unread) is
    ∙ ap (λ o. unwrap_or (option_and_then (understood awaited heard) o) Unread) (json_of-text j clean shallow) ∙ says

-- ---- pages

no_offset : next_of None ≡ Some None
unfolding next_of
no_offset = refl

page_says : (heard : Heard) (time : ℕ) (rows : List Row) (next : Option ℕ) → All IsTypedRow rows → IfSome next (λ n. n < 2 ^ 64) → heard.next ≡ option_map decimal next
    → unwrap_or (page_of heard time (rows_json rows)) Unread ≡ page_told next rows time
page_says heard time rows None typed fits is =
    ap₂ (λ (o : Option (List Sheet)) (p : Option (Option ℕ)). unwrap_or (o >>= λ sheets. p >>= λ offset. Some (Paged sheets offset time)) Unread)
    (rows_are_heard rows (recursion_from_All IsTypedRow rows typed)) (ap next_of is ∙ no_offset)
page_says heard time rows (Some n) typed fits is = elim (cases_lt n 1000000000) [
  | inl small ↦
      ap₂ (λ (o : Option (List Sheet)) (p : Option (Option ℕ)). unwrap_or (o >>= λ sheets. p >>= λ offset. Some (Paged sheets offset time)) Unread)
      (rows_are_heard rows (recursion_from_All IsTypedRow rows typed)) (ap next_of is ∙ offset_heard n small)
      ∙ sym (ap (λ b. cond b (Paged (map sheet_of rows) (Some n) time) Unread) (lt-ltb n 1000000000 small))
  | inr large ↦
      ap₂ (λ (o : Option (List Sheet)) (p : Option (Option ℕ)). unwrap_or (o >>= λ sheets. p >>= λ offset. Some (Paged sheets offset time)) Unread)
      (rows_are_heard rows (recursion_from_All IsTypedRow rows typed)) (ap next_of is ∙ offset_unread n large fits)
      ∙ sym (ap (λ b. cond b (Paged (map sheet_of rows) (Some n) time) Unread) (le-ltb n 1000000000 large))
]

-- a first page that tells no time is none
first_says : (heard : Heard) (rows : List Row) (next modified : Option ℕ) → All IsTypedRow rows → IfSome next (λ n. n < 2 ^ 64) → heard.next ≡ option_map decimal next
    → unwrap_or (option_and_then (λ time. page_of heard time (rows_json rows)) modified) Unread ≡ option_map_or (λ time. page_told next rows time) modified Unread
first_says heard rows next None typed fits is = refl
first_says heard rows next (Some time) typed fits is = page_says heard time rows next typed fits is

-- ---- each kind of body

abbrev Back : Type 0
Back = (n : ℕ) → 1 ≤ n → n ≤ 999999999999 → batch_of (token n) ≡ Some n

module _ (back : Back) (reply : Reply) (last : Bool) where
  abbrev heard : Heard
  heard = heard_of reply false last

  text_is : (status : ℕ) (body : Body) → reply.status ≡ status → reply.body ≡ body → heard.body ≡ content status false body
  text_is status body s b = ap₂ (λ k d. content k false d) s b

  said_is : (awaited : Awaited) (body : Body) → reply.body ≡ body → reply.status ≡ status_of awaited → IsTypedBody body → IfSome reply.next (λ n. n < 2 ^ 64) → IsOfKind awaited body
      → unwrap_or (option_and_then (understood awaited heard) (json_of heard.body)) Unread ≡ said_by awaited reply body
  unfolding understood body_text
  said_is Configuration Limits is status typed fits kind =
      heard_in Configuration heard limits_json _ (text_is 200 Limits status is ∙ limits_are) limits_clean (omega arith) (ap (λ o. unwrap_or (option_map Configured o) Unread) limits_heard)
  said_is FirstPage (Rows rows) is status typed fits kind =
      heard_in FirstPage heard (rows_json rows) _ (text_is 200 (Rows rows) status is ∙ rows_are rows) (rows_clean rows (recursion_from_All IsTypedRow rows typed)) (rows_depth rows)
      (first_says heard rows reply.next reply.modified typed fits refl)
  said_is LaterPage (Rows rows) is status typed fits kind =
      heard_in LaterPage heard (rows_json rows) _ (text_is 200 (Rows rows) status is ∙ rows_are rows) (rows_clean rows (recursion_from_All IsTypedRow rows typed)) (rows_depth rows)
      (page_says heard (unwrap_or reply.modified 0) rows reply.next typed fits refl)
  said_is AllIds (Ids ids) is status typed fits kind =
      let all = recursion_from_All (λ id. is_id id ≡ true) ids typed in
      heard_in AllIds heard (ids_json ids) _ (text_is 200 (Ids ids) status is ∙ ids_are ids) (ids_clean ids all) (ids_depth ids)
      (ap (λ o. unwrap_or (option_map Listed o) Unread) (ids_are_heard ids all))
  said_is Staging (Staged batch success failed) is status typed fits kind =
      let few : batch < 2 ^ 64 = omega (arith, typed.1) in
      let s = recursion_from_All (λ id. is_id id ≡ true) success typed.2 in
      let f = recursion_from_All (λ (failure : List ℕ × Reason). is_id failure.0 ≡ true) failed typed.3 in
      heard_in Staging heard (staged_json batch success failed) _ (text_is 202 (Staged batch success failed) status is ∙ staged_is batch success failed (token_unescaped batch few))
      (staged_clean success failed s f batch (token_utf8 batch few)) (staged_depth success failed s f batch)
      (ap₂ (λ (o : Option (Option (List ℕ))) (p : Option ℕ). unwrap_or (o >>= λ failure. p >>= λ number. Some (answer_or_failure 202 failure (Held number))) Unread)
      (staged_failure success failed s f batch) (staged_batch success failed s f batch (back batch typed.0 typed.1)))
  said_is Writing (Posted time success failed) is status typed fits kind =
      let s = recursion_from_All (λ id. is_id id ≡ true) success typed.1 in
      let f = recursion_from_All (λ (failure : List ℕ × Reason). is_id failure.0 ≡ true) failed typed.2 in
      heard_in Writing heard (posted_json time success failed) _ (text_is 200 (Posted time success failed) status is ∙ posted_is time success failed)
      (posted_clean success failed s f time typed.0) (posted_depth success failed s f time)
      (ap₂ (λ (o : Option (Option (List ℕ))) (p : Option ℕ). unwrap_or (o >>= λ failure. p >>= λ at. Some (answer_or_failure 200 failure (Written at))) Unread)
      (posted_failure success failed s f time) (posted_time success failed s f time typed.0))
  said_is awaited body is status typed fits kind = absurd kind

  by_status : (b : Bool) (x y z : Answer) → (b ≡ true → x ≡ y) → cond b x z ≡ cond b y z
  by_status true x y z h = h refl
  by_status false x y z h = refl

  -- what is heard is what the reply says
  pub heard_is_told : (awaited : Awaited) → IsTypedReply reply → (reply.status ≡ status_of awaited → IsOfKind awaited reply.body) → answer_of awaited heard ≡ told_by awaited reply
  unfolding answer_of told_by
  heard_is_told awaited typed kind =
      by_status (reply.status == status_of awaited) _ _ _ (λ e. let s = eqb-true reply.status (status_of awaited) e in said_is awaited reply.body refl s typed.body typed.next (kind s))

-- ---- the replies of the account

why_not : (why : Refusal) → (refused_with why ≡ 200 → ⊥) × (refused_with why ≡ 202 → ⊥)
why_not NoItem = ((λ e. omega arith), (λ e. omega arith))
why_not NotModified = ((λ e. omega arith), (λ e. omega arith))
why_not WasModified = ((λ e. omega arith), (λ e. omega arith))
why_not NoMoreBatches = ((λ e. omega arith), (λ e. omega arith))
why_not NoBatch = ((λ e. omega arith), (λ e. omega arith))
why_not BatchFull = ((λ e. omega arith), (λ e. omega arith))
why_not ClockEnded = ((λ e. omega arith), (λ e. omega arith))
why_not AccountFull = ((λ e. omega arith), (λ e. omega arith))

is_kind : (account : Plain) (ask : Ask) (refusal : Option Refusal) → (outcome account (request_of ask) refusal).reply.status ≡ status_of (awaited_of ask)
    → IsOfKind (awaited_of ask) (outcome account (request_of ask) refusal).reply.body
is_kind account Configure (Some why) e = absurd ((why_not why).0 e)
is_kind account (AskFirst since) (Some why) e = absurd ((why_not why).0 e)
is_kind account (NextPage since condition offset) (Some why) e = absurd ((why_not why).0 e)
is_kind account (ListIds condition) (Some why) e = absurd ((why_not why).0 e)
is_kind account (PostAll condition parts) (Some why) e = absurd ((why_not why).0 e)
is_kind account (PostFirst condition parts) (Some why) e = absurd ((why_not why).1 e)
is_kind account (PostNext condition batch parts) (Some why) e = absurd ((why_not why).1 e)
is_kind account (PostLast condition batch parts) (Some why) e = absurd ((why_not why).0 e)
is_kind account Configure None e = tt
is_kind account (AskFirst since) None e = tt
is_kind account (NextPage since condition offset) None e = tt
is_kind account (ListIds condition) None e = tt
is_kind account (PostAll condition parts) None e = tt
is_kind account (PostFirst condition parts) None e = tt
is_kind account (PostNext condition batch parts) None e = tt
is_kind account (PostLast condition batch parts) None e = tt

-- a reply of the awaited status is of the kind that is awaited
pub replies_are_of_kind : (account : Plain) (now : ℕ) (ask : Ask) → (api account now (request_of ask)).reply.status ≡ status_of (awaited_of ask)
    → IsOfKind (awaited_of ask) (api account now (request_of ask)).reply.body
replies_are_of_kind account now ask e = is_kind (tick account now) ask (refusal (tick account now) (request_of ask)) e
