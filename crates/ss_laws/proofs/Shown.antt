-- What an account shows, that is all but its batches and their counter; and that no request outside batches sees more.
use Rattle.std.specs.Prelude.{◌≡◌, ℕ, Bool, true, false, ◌&&◌, cond, List, [], ◌∷◌, Option, Some, None, is_some, nat_le}
use Rattle.std.specs.Prelude.{refl}
use Rattle.std.proofs.Common.{ap, subst, ◌∙◌}
use Rattle.ss_text.specs.Time.{last_stamp}
use Rattle.ss_bso.specs.declared.rows.Row.{Row}
use Rattle.ss_bso.specs.declared.parts.Part.{Part}
use Rattle.ss_bso.specs.declared.account.Plain.{Plain}
use Rattle.ss_bso.specs.declared.account.Staged.{Staged}
use Rattle.ss_bso.specs.Account.{tick, time_of}
use Rattle.ss_bso.specs.Write.{account_after_write, rows_without}
use Rattle.ss_query.specs.declared.requests.Request.{Request}
use Rattle.ss_query.specs.declared.requests.Request.TheVariants.{Info, DeleteAll, List as ListOf, Post}
use Rattle.ss_query.specs.declared.requests.Request.TheVariants.{DeleteCollection, DeleteIds, Get, Put, Delete}
use Rattle.ss_query.specs.declared.requests.Mode.TheVariants.{Plain as PlainPost, Begin, Append, Commit}
use Rattle.ss_query.specs.declared.replies.Reply.{Reply}
use Rattle.ss_query.specs.Refused.{Refusal, NoItem, NoMoreBatches, NoBatch, BatchFull, ClockEnded, AccountFull}
use Rattle.ss_query.specs.Effect.{stamp_in, effect, is_write, is_over, write_some}
use Rattle.ss_query.specs.Told.{body_of, ok_status, count_of, next_of}
use Rattle.ss_query.specs.Api.{refusal, outcome, refused_outcome, done_outcome, api, Outcome, first_some, where_so}
use Rattle.ss_query.specs.Api.{misses_item, condition_cause, lacks_room, misses_batch, overfills_batch, time_told}
use Rattle.ss_laws.specs.Laws.{is_of_batch}

pub record Shown : Type 0 where
  pub rows : List Row
  pub collections : List (List ℕ × ℕ)
  pub store : ℕ
  pub last_delete : ℕ
  pub moment : ℕ

abbrev pub shown : Plain → Shown
shown account = record { rows = account.rows; collections = account.collections; store = account.store; last_delete = account.last_delete; moment = account.moment }

abbrev pub account_of : Shown → ℕ → List Staged → Plain
account_of s counter batches = record { rows = s.rows; collections = s.collections; store = s.store; last_delete = s.last_delete; moment = s.moment; counter = counter; batches = batches }

pub account_of-shown : (account : Plain) → account_of (shown account) account.counter account.batches ≡ account
account_of-shown account = refl

-- what a write of a list shows does not depend on the batches
pub shown-write_some : (s : Shown) (n m : ℕ) (bs cs : List Staged) (collection : List ℕ) (parts : List Part) → shown (write_some (account_of s n bs) collection parts) ≡ shown (write_some (account_of s m cs) collection parts)
shown-write_some s n m bs cs collection [] = refl
shown-write_some s n m bs cs collection (part ∷ parts) = refl

shown-cond : (b : Bool) (x y u v : Plain) → shown x ≡ shown u → shown y ≡ shown v → shown (cond b x y) ≡ shown (cond b u v)
shown-cond true x y u v p q = p
shown-cond false x y u v p q = q

pub shown-effect : (s : Shown) (n m : ℕ) (bs cs : List Staged) (request : Request) → is_of_batch request ≡ false → shown (effect (account_of s n bs) request) ≡ shown (effect (account_of s m cs) request)
shown-effect s n m bs cs (Info what cond) e = refl
shown-effect s n m bs cs (DeleteAll cond) e = refl
shown-effect s n m bs cs (ListOf collection query cond) e = refl
shown-effect s n m bs cs (Post collection records PlainPost cond) e = shown-write_some s n m bs cs collection records.parts
shown-effect s n m bs cs (Post collection records Begin cond) e = refl
shown-effect s n m bs cs (Post collection records (Append number) cond) e = refl
shown-effect s n m bs cs (Post collection records (Commit number) cond) e = cc
shown-effect s n m bs cs (DeleteCollection collection cond) e = refl
shown-effect s n m bs cs (DeleteIds collection ids cond) e =
    shown-cond (is_some (time_of collection s.collections))
    (account_after_write (account_of s n bs) collection (stamp_in (account_of s n bs)) (rows_without collection ids s.rows)) (account_of s n bs)
    (account_after_write (account_of s m cs) collection (stamp_in (account_of s m cs)) (rows_without collection ids s.rows)) (account_of s m cs)
    refl refl
shown-effect s n m bs cs (Get collection id cond) e = refl
shown-effect s n m bs cs (Put collection id fields cond) e = refl
shown-effect s n m bs cs (Delete collection id cond) e = refl

-- the refusal, with the answer to the last test given
abbrev pub refusal_by : Plain → Request → Bool → Option Refusal
refusal_by account request over = first_some (
    where_so (misses_item account request) NoItem
    ∷ condition_cause account request
    ∷ where_so (lacks_room account request) NoMoreBatches
    ∷ where_so (misses_batch account request) NoBatch
    ∷ where_so (overfills_batch account request) BatchFull
    ∷ where_so (is_write account request && nat_le last_stamp account.store) ClockEnded
    ∷ where_so (is_write account request && over) AccountFull
    ∷ [])

pub over_of : (s : Shown) (n m : ℕ) (bs cs : List Staged) (request : Request) → shown (effect (account_of s n bs) request) ≡ shown (effect (account_of s m cs) request) → is_over (effect (account_of s n bs) request) ≡ is_over (effect (account_of s m cs) request)
over_of s n m bs cs request e = ap (λ (t : Shown). is_over (account_of t 0 [])) e

refusal_by-shown : (s : Shown) (n m : ℕ) (bs cs : List Staged) (request : Request) (over : Bool) → is_of_batch request ≡ false → refusal_by (account_of s n bs) request over ≡ refusal_by (account_of s m cs) request over
refusal_by-shown s n m bs cs (Info what cond) over e = refl
refusal_by-shown s n m bs cs (DeleteAll cond) over e = refl
refusal_by-shown s n m bs cs (ListOf collection query cond) over e = refl
refusal_by-shown s n m bs cs (Post collection records PlainPost cond) over e = refl
refusal_by-shown s n m bs cs (Post collection records Begin cond) over e = cc
refusal_by-shown s n m bs cs (Post collection records (Append number) cond) over e = cc
refusal_by-shown s n m bs cs (Post collection records (Commit number) cond) over e = cc
refusal_by-shown s n m bs cs (DeleteCollection collection cond) over e = refl
refusal_by-shown s n m bs cs (DeleteIds collection ids cond) over e = refl
refusal_by-shown s n m bs cs (Get collection id cond) over e = refl
refusal_by-shown s n m bs cs (Put collection id fields cond) over e = refl
refusal_by-shown s n m bs cs (Delete collection id cond) over e = refl

refusal-shown : (s : Shown) (n m : ℕ) (bs cs : List Staged) (request : Request) → is_of_batch request ≡ false → refusal (account_of s n bs) request ≡ refusal (account_of s m cs) request
refusal-shown s n m bs cs request e =
    refusal_by-shown s n m bs cs request (is_over (effect (account_of s n bs) request)) e
    ∙ ap (λ over. refusal_by (account_of s m cs) request over) (over_of s n m bs cs request (shown-effect s n m bs cs request e))

-- the reply of a request that is done, with the moment after it given
abbrev reply_at : Plain → Request → ℕ → Reply
reply_at account request moment = record {
  status = ok_status request;
  moment = moment;
  modified = Some (time_told account request);
  count = count_of account request;
  next = next_of account request;
  body = body_of account request (time_told account request);
}

reply_at-shown : (s : Shown) (n m : ℕ) (bs cs : List Staged) (request : Request) (moment : ℕ) → is_of_batch request ≡ false → reply_at (account_of s n bs) request moment ≡ reply_at (account_of s m cs) request moment
reply_at-shown s n m bs cs (Info what cond) moment e = refl
reply_at-shown s n m bs cs (DeleteAll cond) moment e = refl
reply_at-shown s n m bs cs (ListOf collection query cond) moment e = refl
reply_at-shown s n m bs cs (Post collection records PlainPost cond) moment e = refl
reply_at-shown s n m bs cs (Post collection records Begin cond) moment e = cc
reply_at-shown s n m bs cs (Post collection records (Append number) cond) moment e = cc
reply_at-shown s n m bs cs (Post collection records (Commit number) cond) moment e = cc
reply_at-shown s n m bs cs (DeleteCollection collection cond) moment e = refl
reply_at-shown s n m bs cs (DeleteIds collection ids cond) moment e = refl
reply_at-shown s n m bs cs (Get collection id cond) moment e = refl
reply_at-shown s n m bs cs (Put collection id fields cond) moment e = refl
reply_at-shown s n m bs cs (Delete collection id cond) moment e = refl

reply-done : (s : Shown) (n m : ℕ) (bs cs : List Staged) (request : Request) → is_of_batch request ≡ false → (done_outcome (account_of s n bs) request).reply ≡ (done_outcome (account_of s m cs) request).reply
reply-done s n m bs cs request e =
    reply_at-shown s n m bs cs request (effect (account_of s n bs) request).moment e
    ∙ ap (λ (t : Shown). reply_at (account_of s m cs) request t.moment) (shown-effect s n m bs cs request e)

-- two accounts show the same, and are told the same
pub record Agree (one other : Outcome) : Type 0 where
  pub reply : one.reply ≡ other.reply
  pub account : shown one.account ≡ shown other.account

reply-refused : (s : Shown) (n m : ℕ) (bs cs : List Staged) (request : Request) (why : Refusal) → is_of_batch request ≡ false → (refused_outcome (account_of s n bs) request why).reply ≡ (refused_outcome (account_of s m cs) request why).reply
reply-refused s n m bs cs (Info what cond) why e = refl
reply-refused s n m bs cs (DeleteAll cond) why e = refl
reply-refused s n m bs cs (ListOf collection query cond) why e = refl
reply-refused s n m bs cs (Post collection records mode cond) why e = refl
reply-refused s n m bs cs (DeleteCollection collection cond) why e = refl
reply-refused s n m bs cs (DeleteIds collection ids cond) why e = refl
reply-refused s n m bs cs (Get collection id cond) why e = refl
reply-refused s n m bs cs (Put collection id fields cond) why e = refl
reply-refused s n m bs cs (Delete collection id cond) why e = refl

turned-shown : (s : Shown) (n m : ℕ) (bs cs : List Staged) (request : Request) (why : Option Refusal) → is_of_batch request ≡ false → Agree (outcome (account_of s n bs) request why) (outcome (account_of s m cs) request why)
turned-shown s n m bs cs request (Some why) e = record { reply = reply-refused s n m bs cs request why e; account = refl }
turned-shown s n m bs cs request None e = record { reply = reply-done s n m bs cs request e; account = shown-effect s n m bs cs request e }

turn-shown : (s : Shown) (n m : ℕ) (bs cs : List Staged) (request : Request) → is_of_batch request ≡ false
    → Agree (outcome (account_of s n bs) request (refusal (account_of s n bs) request)) (outcome (account_of s m cs) request (refusal (account_of s m cs) request))
turn-shown s n m bs cs request e =
    subst (λ (why : Option Refusal). Agree (outcome (account_of s n bs) request (refusal (account_of s n bs) request)) (outcome (account_of s m cs) request why))
    (refusal-shown s n m bs cs request e) (turned-shown s n m bs cs request (refusal (account_of s n bs) request) e)

tick_at : (account : Plain) (reading : ℕ) (t : Shown) → shown account ≡ t → shown (tick account reading) ≡ shown (tick (account_of t 0 []) reading)
tick_at account reading t e = ap (λ (u : Shown). shown (tick (account_of u 0 []) reading)) e

-- the clock shows the same in accounts that show the same
pub tick-shown : (one other : Plain) (reading : ℕ) → shown one ≡ shown other → shown (tick one reading) ≡ shown (tick other reading)
tick-shown one other reading e = tick_at one reading (shown other) e

turn_at : (one other : Plain) (t : Shown) (request : Request) → shown one ≡ t → is_of_batch request ≡ false
    → Agree (outcome one request (refusal one request)) (outcome (account_of t other.counter other.batches) request (refusal (account_of t other.counter other.batches) request))
turn_at one other t request e f =
    subst (λ (u : Shown). Agree (outcome one request (refusal one request)) (outcome (account_of u other.counter other.batches) request (refusal (account_of u other.counter other.batches) request)))
    e (turn-shown (shown one) one.counter other.counter one.batches other.batches request f)

-- a request outside batches does the same in accounts that show the same
pub api-shown : (one other : Plain) (reading : ℕ) (request : Request) → shown one ≡ shown other → is_of_batch request ≡ false → Agree (api one reading request) (api other reading request)
api-shown one other reading request e f =
    turn_at (tick one reading) (tick other reading) (shown (tick other reading)) request (tick-shown one other reading e) f
