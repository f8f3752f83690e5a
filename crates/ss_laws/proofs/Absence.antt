-- The condition that a target isn't there.
use Rattle.std.specs.Prelude.{◌≡◌, ◌↔◌, ℕ, Bool, true, false, ◌&&◌, nat_le, nat_lt, List, [], ◌∷◌, Option, Some, None}
use Rattle.std.specs.Prelude.{option_map, is_none, is_some, if◌then◌else◌, refl}
use Rattle.std.proofs.Common.{ap, arith, sym, cond, ◌∙◌}
use Rattle.ss_text.specs.Time.{last_stamp, stops}
use Rattle.ss_text.specs.declared.stamps.Cond.{Cond}
use Rattle.ss_text.specs.declared.stamps.Cond.TheVariants.{IfAbsent, IfUnmodified}
use Rattle.ss_bso.specs.declared.account.Plain.{Plain}
use Rattle.ss_bso.specs.Account.{tick, row_at}
use Rattle.ss_query.specs.declared.requests.Request.{Request}
use Rattle.ss_query.specs.declared.requests.Request.TheVariants.{Info, DeleteAll, List as ListOf, Post}
use Rattle.ss_query.specs.declared.requests.Request.TheVariants.{DeleteCollection, DeleteIds, Put, Get as GetItem}
use Rattle.ss_query.specs.declared.requests.Request.TheVariants.{Delete as DeleteItem}
use Rattle.ss_query.specs.declared.requests.Mode.{Mode}
use Rattle.ss_query.specs.declared.requests.Mode.TheVariants.{Plain as PlainPost, Begin, Append, Commit}
use Rattle.ss_query.specs.Refused.{Refusal, NoItem, NotModified, WasModified, NoMoreBatches, NoBatch, BatchFull}
use Rattle.ss_query.specs.Refused.{ClockEnded, AccountFull, status_of, is_there, target_time, with_condition}
use Rattle.ss_query.specs.Effect.{effect, is_write, is_over}
use Rattle.ss_query.specs.Told.{ok_status, post_status}
use Rattle.ss_query.specs.Api.{Outcome, api, first_some, lacks_room, misses_batch, misses_item, outcome}
use Rattle.ss_query.specs.Api.{overfills_batch, refusal, where_so, why_stopped}
use Rattle.ss_laws.specs.Laws.{AbsenceLaw}

-- the refusals behind that by the condition
abbrev behind : Plain → Request → List (Option Refusal)
behind account request =
    where_so (lacks_room account request) NoMoreBatches
    ∷ where_so (misses_batch account request) NoBatch
    ∷ where_so (overfills_batch account request) BatchFull
    ∷ where_so (is_write account request && nat_le last_stamp account.store) ClockEnded
    ∷ where_so (is_write account request && is_over (effect account request)) AccountFull
    ∷ []

abbrev refused_by : Plain → Request → Option Refusal → Option Refusal
refused_by account request cause = first_some (where_so (misses_item account request) NoItem ∷ cause ∷ behind account request)

-- the condition of a request shows in that refusal alone
by_cause : (account : Plain) (c : Cond) (request : Request)
    → refusal account (with_condition c request) ≡ refused_by account request (option_map why_stopped (stops c (is_there account request) (target_time account request)))
by_cause account c (Info what x) = refl
by_cause account c (DeleteAll x) = refl
by_cause account c (ListOf collection query x) = refl
by_cause account c (Post collection records mode x) = refl
by_cause account c (DeleteCollection collection x) = refl
by_cause account c (DeleteIds collection ids x) = refl
by_cause account c (GetItem collection id x) = refl
by_cause account c (Put collection id fields x) = refl
by_cause account c (DeleteItem collection id x) = refl

done_alike : (account : Plain) (c d : Cond) (request : Request) (why : Option Refusal) → outcome account (with_condition c request) why ≡ outcome account (with_condition d request) why
done_alike account c d (Info what x) None = refl
done_alike account c d (Info what x) (Some why) = refl
done_alike account c d (DeleteAll x) None = refl
done_alike account c d (DeleteAll x) (Some why) = refl
done_alike account c d (ListOf collection query x) None = refl
done_alike account c d (ListOf collection query x) (Some why) = refl
done_alike account c d (Post collection records mode x) None = refl
done_alike account c d (Post collection records mode x) (Some why) = refl
done_alike account c d (DeleteCollection collection x) None = refl
done_alike account c d (DeleteCollection collection x) (Some why) = refl
done_alike account c d (DeleteIds collection ids x) None = refl
done_alike account c d (DeleteIds collection ids x) (Some why) = refl
done_alike account c d (GetItem collection id x) None = refl
done_alike account c d (GetItem collection id x) (Some why) = refl
done_alike account c d (Put collection id fields x) None = refl
done_alike account c d (Put collection id fields x) (Some why) = refl
done_alike account c d (DeleteItem collection id x) None = refl
done_alike account c d (DeleteItem collection id x) (Some why) = refl

alike : (account : Plain) (c d : Cond) (request : Request) → stops c (is_there account request) (target_time account request) ≡ stops d (is_there account request) (target_time account request)
    → outcome account (with_condition c request) (refusal account (with_condition c request)) ≡ outcome account (with_condition d request) (refusal account (with_condition d request))
alike account c d request e =
    let why : Option ℕ → Option Refusal = λ stop. refused_by account request (option_map why_stopped stop) in
    let same : refusal account (with_condition c request) ≡ refusal account (with_condition d request) = by_cause account c request ∙ ap why e ∙ sym (by_cause account d request) in
    done_alike account c d request (refusal account (with_condition c request)) ∙ ap (outcome account (with_condition d request)) same

-- what is there isn't missed
is_found : {X : Type 0} (o : Option X) → is_some o ≡ true → is_none o ≡ false
is_found None e = cc
is_found (Some x) e = refl

found : (account : Plain) (request : Request) → is_there account request ≡ true → misses_item account request ≡ false
found account (Info what x) e = refl
found account (DeleteAll x) e = refl
found account (ListOf collection query x) e = refl
found account (Post collection records mode x) e = refl
found account (DeleteCollection collection x) e = refl
found account (DeleteIds collection ids x) e = refl
found account (GetItem collection id x) e = is_found (row_at collection id account.rows) e
found account (Put collection id fields x) e = refl
found account (DeleteItem collection id x) e = is_found (row_at collection id account.rows) e

-- the status of an outcome
abbrev status_told : Request → Option Refusal → ℕ
status_told request None = ok_status request
status_told request (Some why) = status_of why

status_is : (account : Plain) (c : Cond) (request : Request) (why : Option Refusal) → (outcome account (with_condition c request) why).reply.status ≡ status_told request why
status_is account c (Info what x) None = refl
status_is account c (Info what x) (Some why) = refl
status_is account c (DeleteAll x) None = refl
status_is account c (DeleteAll x) (Some why) = refl
status_is account c (ListOf collection query x) None = refl
status_is account c (ListOf collection query x) (Some why) = refl
status_is account c (Post collection records mode x) None = refl
status_is account c (Post collection records mode x) (Some why) = refl
status_is account c (DeleteCollection collection x) None = refl
status_is account c (DeleteCollection collection x) (Some why) = refl
status_is account c (DeleteIds collection ids x) None = refl
status_is account c (DeleteIds collection ids x) (Some why) = refl
status_is account c (GetItem collection id x) None = refl
status_is account c (GetItem collection id x) (Some why) = refl
status_is account c (Put collection id fields x) None = refl
status_is account c (Put collection id fields x) (Some why) = refl
status_is account c (DeleteItem collection id x) None = refl
status_is account c (DeleteItem collection id x) (Some why) = refl

stopped : (missed : Bool) (others : List (Option Refusal)) (request : Request) → missed ≡ false → status_told request (first_some (where_so missed NoItem ∷ Some WasModified ∷ others)) ≡ 412
stopped true others request e = cc
stopped false others request e = refl

no_status : (request : Request) → ok_status request ≡ 412 → ⊥
no_status (Info what x) e = omega (arith, e)
no_status (DeleteAll x) e = omega (arith, e)
no_status (ListOf collection query x) e = omega (arith, e)
no_status (Post collection records PlainPost x) e = omega (arith, e)
no_status (Post collection records Begin x) e = omega (arith, e)
no_status (Post collection records (Append number) x) e = omega (arith, e)
no_status (Post collection records (Commit number) x) e = omega (arith, e)
no_status (DeleteCollection collection x) e = omega (arith, e)
no_status (DeleteIds collection ids x) e = omega (arith, e)
no_status (GetItem collection id x) e = omega (arith, e)
no_status (Put collection id fields x) e = omega (arith, e)
no_status (DeleteItem collection id x) e = omega (arith, e)

not_stopped : (request : Request) (missed a b c d e : Bool)
    → status_told request (first_some (where_so missed NoItem ∷ None ∷ where_so a NoMoreBatches ∷ where_so b NoBatch ∷ where_so c BatchFull ∷ where_so d ClockEnded ∷ where_so e AccountFull ∷ [])) ≡ 412 → ⊥
not_stopped request true a b c d e is = omega (arith, is)
not_stopped request false true b c d e is = omega (arith, is)
not_stopped request false false true c d e is = omega (arith, is)
not_stopped request false false false true d e is = omega (arith, is)
not_stopped request false false false false true e is = omega (arith, is)
not_stopped request false false false false false true is = omega (arith, is)
not_stopped request false false false false false false is = no_status request is

abbrev status_by : (account : Plain) (request : Request) → ℕ
status_by account request = (outcome account (with_condition IfAbsent request) (refusal account (with_condition IfAbsent request))).reply.status

status_said : (account : Plain) (request : Request) → status_by account request ≡ status_told request (refused_by account request (option_map why_stopped (cond (is_there account request) (Some 412) None)))
status_said account request = status_is account IfAbsent request (refusal account (with_condition IfAbsent request)) ∙ ap (status_told request) (by_cause account IfAbsent request)

stops_there : (account : Plain) (request : Request) (there : Bool) → is_there account request ≡ there
    → (status_told request (refused_by account request (option_map why_stopped (cond there (Some 412) None))) ≡ 412) ↔ (there ≡ true)
stops_there account request true is =
    ((λ e. refl), (λ e. stopped (misses_item account request) (behind account request) request (found account request is)))
stops_there account request false is = (
  (λ e. absurd (not_stopped request (misses_item account request) (lacks_room account request) (misses_batch account request) (overfills_batch account request)
      (is_write account request && nat_le last_stamp account.store) (is_write account request && is_over (effect account request)) e)),
  (λ e. cc),
)

pub absence_law : (account : Plain) (now : ℕ) (request : Request) → AbsenceLaw account now request
absence_law account now request =
    let ticked : Plain = tick account now in
    let said = status_said ticked request in
    let both = stops_there ticked request (is_there ticked request) refl in
    record {
      stops = ((λ e. both.0 (sym said ∙ e)), (λ e. said ∙ both.1 e));
      unmodified = λ same. alike ticked IfAbsent (IfUnmodified 0) request (ap (λ there. cond there (Some 412) None) same);
    }
