-- The one-account API: what a request, at a reading of the clock, makes of an account, and what it is told.
use Rattle.std.specs.Prelude.{ℕ, ◌==◌, Bool, false, not, ◌&&◌, ◌||◌, nat_le, is_none, List, [], ◌∷◌, ◌++◌, length}
use Rattle.std.specs.Prelude.{Option, Some, None, option_map, if◌then◌else◌}
use Rattle.std.specs.Option.{option_map_or}
use Rattle.ss_text.specs.Time.{last_stamp, stops}
use Rattle.ss_bso.specs.declared.account.Plain.{Plain}
use Rattle.ss_bso.specs.Account.{tick, row_at}
use Rattle.ss_bso.specs.Limits.{most_live_batches}
use Rattle.ss_query.specs.declared.requests.Request.{Request}
use Rattle.ss_query.specs.declared.requests.Request.TheVariants.{Post, Get, Delete}
use Rattle.ss_query.specs.declared.replies.Reply.{Reply}
use Rattle.ss_bso.specs.Batches.{fit}
use Rattle.ss_query.specs.Refused.{Refusal, NoItem, NotModified, WasModified, NoMoreBatches, NoBatch, BatchFull}
use Rattle.ss_query.specs.Refused.{ClockEnded, AccountFull, status_of, said_by, time_shown, condition_of, is_there}
use Rattle.ss_query.specs.Refused.{target_time, batch_of, staged_parts, continued_batch, begins}
use Rattle.ss_query.specs.Effect.{stamp_in, effect, is_write, is_over}
use Rattle.ss_query.specs.Told.{body_of, ok_status, count_of, next_of}

-- GET or DELETE of an item that isn't there
abbrev pub misses_item : Plain → Request → Bool
misses_item account (Get collection id cond) = is_none (row_at collection id account.rows)
misses_item account (Delete collection id cond) = is_none (row_at collection id account.rows)
misses_item account _ = false

-- why a condition that stops a request with this status refuses it
abbrev pub why_stopped : ℕ → Refusal
why_stopped status = if status == 304 then NotModified else WasModified

-- the refusal by the request's condition, where it stops the request
abbrev pub condition_cause : Plain → Request → Option Refusal
condition_cause account request = option_map why_stopped (stops (condition_of request) (is_there account request) (target_time account request))

-- a begin with as many live batches as there may be, or with the counter at its last value
abbrev pub lacks_room : Plain → Request → Bool
lacks_room account (Post collection records mode cond) =
    begins mode && (nat_le most_live_batches (length account.batches) || nat_le last_stamp account.counter)
lacks_room account _ = false

-- an append or a commit of a batch that isn't live for the collection
abbrev pub misses_batch : Plain → Request → Bool
misses_batch account (Post collection records mode cond) =
    option_map_or (λ number. is_none (batch_of account collection number)) (continued_batch mode) false
misses_batch account _ = false

-- an append or a commit that would take the batch over its limits
abbrev pub overfills_batch : Plain → Request → Bool
overfills_batch account (Post collection records mode cond) =
    option_map_or (λ number. not (fit (staged_parts account collection number ++ records.parts))) (continued_batch mode) false
overfills_batch account _ = false

-- a cause, where its test holds
abbrev pub where_so : Bool → Refusal → Option Refusal
where_so test refusal = if test then Some refusal else None

-- the first of these that is there
abbrev pub first_some : {X : Type 0} → List (Option X) → Option X
first_some [] = None
first_some (None ∷ options) = first_some options
first_some (Some x ∷ options) = Some x

-- the first refusal that applies
abbrev pub refusal : Plain → Request → Option Refusal
refusal account request = first_some (
    where_so (misses_item account request) NoItem
    ∷ condition_cause account request
    ∷ where_so (lacks_room account request) NoMoreBatches
    ∷ where_so (misses_batch account request) NoBatch
    ∷ where_so (overfills_batch account request) BatchFull
    ∷ where_so (is_write account request && nat_le last_stamp account.store) ClockEnded
    ∷ where_so (is_write account request && is_over (effect account request)) AccountFull
    ∷ [])

-- an account and a reply
pub record Outcome : Type 0 where
  pub account : Plain
  pub reply : Reply

-- the stamp after a write, the target's time otherwise
abbrev pub time_told : Plain → Request → ℕ
time_told account request = if is_write account request then stamp_in account else target_time account request

-- a request that is refused: nothing is done, and the cause is told
abbrev pub refused_outcome : Plain → Request → Refusal → Outcome
refused_outcome account request why = record {
  account = account;
  reply = record {
    status = status_of why;
    moment = account.moment;
    modified = time_shown why (target_time account request);
    count = None;
    next = None;
    body = said_by why;
  };
}

-- a request that isn't refused: its effect, and what it is told
abbrev pub done_outcome : Plain → Request → Outcome
done_outcome account request = record {
  account = effect account request;
  reply = record {
    status = ok_status request;
    moment = (effect account request).moment;
    modified = Some (time_told account request);
    count = count_of account request;
    next = next_of account request;
    body = body_of account request (time_told account request);
  };
}

-- refused, or else done
abbrev pub outcome : Plain → Request → Option Refusal → Outcome
outcome account request (Some why) = refused_outcome account request why
outcome account request None = done_outcome account request

-- the API: a tick of the clock, and then the first refusal or else the request's effect
abbrev pub api : Plain → ℕ → Request → Outcome
api account reading request = let ticked = tick account reading in outcome ticked request (refusal ticked request)
