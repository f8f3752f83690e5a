-- The limits that an answer tells are no greater than ours.
use Rattle.std.proofs.Common.{◌≡◌, ℕ, ◌≤◌, List, min, Bool, true, false, cond, ◌==◌, ◌&&◌, Option, Some, None}
use Rattle.std.proofs.Common.{option_map, option_and_then, unwrap_or, codes, refl, subst, arith}
use Rattle.json.specs.Json.{Json}
use Rattle.ss_text.specs.Numbers.{number_of}
use Rattle.ss_bso.specs.declared.limits.TheConstants.{MOST_RECORD_PAYLOAD_BYTES, MOST_POST_RECORDS, MOST_POST_BYTES}
use Rattle.ss_bso.specs.declared.limits.TheConstants.{MOST_BATCH_RECORDS, MOST_BATCH_BYTES}
use Rattle.ss_http.specs.declared.limits.TheConstants.{BODY_ROOM}
use Rattle.ss_http.specs.declared.heard.Heard.{Heard}
use Rattle.ss_plan.specs.declared.limits.Limits.{Limits}
use Rattle.ss_hearing.specs.declared.answer.Awaited.{Awaited}
use Rattle.ss_hearing.specs.declared.answer.Awaited.TheVariants.{Configuration, FirstPage, LaterPage, AllIds, Staging}
use Rattle.ss_hearing.specs.declared.answer.Awaited.TheVariants.{Writing}
use Rattle.ss_hearing.specs.declared.answer.Answer.{Answer}
use Rattle.ss_hearing.specs.declared.answer.Answer.TheVariants.{Configured, Listed, Held, Written, Changed, Refused}
use Rattle.ss_hearing.specs.declared.answer.Answer.TheVariants.{Unread}
use Rattle.ss_hearing.specs.Bodies.{json_of, number_in, stamp_in, ◌>>=◌}
use Rattle.ss_hearing.specs.Limits.{limit_in, limits_of}
use Rattle.ss_hearing.specs.Lists.{rows_of, ids_of, next_of}
use Rattle.ss_hearing.specs.Posts.{failure_in, batch_in}
use Rattle.ss_hearing.specs.Hearing.{is_conditional, status_of, time_of, page_of, answer_or_failure, understood}
use Rattle.ss_hearing.specs.Hearing.{answer_of}
use Rattle.ss_client.specs.Sound.{AreOurs, TellsOurs}

-- ---- limits

bound : {A B : Type 0} (o : Option A) (f : A → Option B) (b : B) → (o >>= f) ≡ Some b → (x : A) × (o ≡ Some x) × (f x ≡ Some b)
bound None f b e = cc
bound (Some x) f b e = (x, refl, e)

limit_ours : (name : List ℕ) (ours : ℕ) (d : Json) (x : ℕ) → limit_in name ours d ≡ Some x → x ≤ ours
unfolding limit_in
limit_ours name ours d x e = go (option_and_then (number_of 18) (number_in name d)) e
  where
    go : (o : Option ℕ) → option_map (λ limit. min limit ours) o ≡ Some x → x ≤ ours
    go None q = cc
    go (Some n) q = let is : min n ours ≡ x = cc in omega (arith, is)

limits_ours : (d : Json) (limits : Limits) → limits_of d ≡ Some limits → AreOurs limits
unfolding limits_of
limits_ours d limits e =
    let a = bound (limit_in (codes "max_request_bytes") BODY_ROOM d) _ limits e in
    let b = bound (limit_in (codes "max_post_records") MOST_POST_RECORDS d) _ limits a.2 in
    let c = bound (limit_in (codes "max_post_bytes") MOST_POST_BYTES d) _ limits b.2 in
    let f = bound (limit_in (codes "max_total_records") MOST_BATCH_RECORDS d) _ limits c.2 in
    let g = bound (limit_in (codes "max_total_bytes") MOST_BATCH_BYTES d) _ limits f.2 in
    let h = bound (limit_in (codes "max_record_payload_bytes") MOST_RECORD_PAYLOAD_BYTES d) _ limits g.2 in
    let records : b.0 ≡ limits.max_post_records = cc h.2 in
    let bytes : c.0 ≡ limits.max_post_bytes = cc h.2 in
    let payload : h.0 ≡ limits.max_record_payload_bytes = cc h.2 in
    let total : f.0 ≡ limits.max_total_records = cc h.2 in
    record {
      records = subst (λ n. n ≤ MOST_POST_RECORDS) records (limit_ours _ MOST_POST_RECORDS d b.0 b.1);
      bytes = subst (λ n. n ≤ MOST_POST_BYTES) bytes (limit_ours _ MOST_POST_BYTES d c.0 c.1);
      payload = subst (λ n. n ≤ MOST_RECORD_PAYLOAD_BYTES) payload (limit_ours _ MOST_RECORD_PAYLOAD_BYTES d h.0 h.1);
      total = subst (λ n. n ≤ MOST_BATCH_RECORDS) total (limit_ours _ MOST_BATCH_RECORDS d f.0 f.1);
    }

-- ---- answers

abbrev Good : Option Answer → Type 0
Good o = TellsOurs (unwrap_or o Unread)

bind_good : {A : Type 0} (o : Option A) (f : A → Option Answer) → ((x : A) → Good (f x)) → Good (o >>= f)
bind_good None f h = tt
bind_good (Some x) f h = h x

pub told_good : (status : ℕ) (failure : Option (List ℕ)) (answer : Answer) → TellsOurs answer → TellsOurs (answer_or_failure status failure answer)
told_good status None answer t = t
told_good status (Some id) answer t = tt

page_good : (heard : Heard) (time : ℕ) (d : Json) → Good (page_of heard time d)
page_good heard time d = bind_good (rows_of d) _ (λ rows. bind_good (next_of heard.next) _ (λ n. tt))

understood_good : (awaited : Awaited) (heard : Heard) (d : Json) → Good (understood awaited heard d)
unfolding understood
understood_good Configuration heard d = go (limits_of d) refl
  where
    go : (o : Option Limits) → limits_of d ≡ o → Good (option_map Configured o)
    go None e = tt
    go (Some l) e = limits_ours d l e
understood_good FirstPage heard d = go heard.modified
  where
    go : (o : Option ℕ) → Good (option_and_then (λ time. page_of heard time d) o)
    go None = tt
    go (Some time) = page_good heard time d
understood_good LaterPage heard d = page_good heard (time_of heard) d
understood_good AllIds heard d = go (ids_of d)
  where
    go : (o : Option (List (List ℕ))) → Good (option_map Listed o)
    go None = tt
    go (Some ids) = tt
understood_good Staging heard d = bind_good (failure_in d) _ (λ f. bind_good (batch_in d) _ (λ b. told_good 202 f (Held b) tt))
understood_good Writing heard d = bind_good (failure_in d) _ (λ f. bind_good (stamp_in (codes "modified") d) _ (λ t. told_good 200 f (Written t) tt))

pub tells_ours : (awaited : Awaited) (heard : Heard) → TellsOurs (answer_of awaited heard)
unfolding answer_of
tells_ours awaited heard = go (heard.status == status_of awaited)
  where
    read : (o : Option Json) → Good (option_and_then (understood awaited heard) o)
    read None = tt
    read (Some d) = understood_good awaited heard d

    other : (b : Bool) → TellsOurs (cond b (Changed (time_of heard)) (Refused heard.status))
    other true = tt
    other false = tt

    go : (b : Bool) → TellsOurs (cond b (unwrap_or (option_and_then (understood awaited heard) (json_of heard.body)) Unread) (cond (is_conditional awaited && (heard.status == 412)) (Changed (time_of heard)) (Refused heard.status)))
    go true = read (json_of heard.body)
    go false = other (is_conditional awaited && (heard.status == 412))
