-- What a request means in either manner of reading conditions.
use Rattle.std.specs.Prelude.{◌≡◌, ℕ, Bool, true, false, ◌&&◌, ◌||◌, ◌==◌, nat_le, nat_lt, List, [], ◌∷◌, Option}
use Rattle.std.specs.Prelude.{option_map, is_none, refl}
use Rattle.std.proofs.Common.{sym, ap, cond, subst, ◌∙◌}
use Rattle.std.proofs.lemmas.Bool.{eqb-true}
use Rattle.ss_text.specs.Time.{last_stamp, stops}
use Rattle.ss_text.specs.declared.stamps.Cond.{Cond}
use Rattle.ss_text.specs.declared.stamps.Cond.TheVariants.{Free, IfModified, IfUnmodified, IfAbsent}
use Rattle.ss_bso.specs.declared.account.Plain.{Plain}
use Rattle.ss_bso.specs.Account.{tick}
use Rattle.ss_bso.specs.Validity.{SameAccount}
use Rattle.ss_query.specs.declared.requests.Request.{Request}
use Rattle.ss_query.specs.declared.requests.Request.TheVariants.{Info, DeleteAll, List as ListOf, Post}
use Rattle.ss_query.specs.declared.requests.Request.TheVariants.{DeleteCollection, DeleteIds, Put, Get as GetItem}
use Rattle.ss_query.specs.declared.requests.Request.TheVariants.{Delete as DeleteItem}
use Rattle.ss_query.specs.Refused.{Refusal, NoItem, NoMoreBatches, NoBatch, BatchFull, ClockEnded, AccountFull}
use Rattle.ss_query.specs.Refused.{condition_of, is_there, target_time, with_condition}
use Rattle.ss_query.specs.Effect.{effect, is_write, is_over}
use Rattle.ss_query.specs.Api.{Outcome, api, first_some, lacks_room, misses_batch, misses_item, overfills_batch}
use Rattle.ss_query.specs.Api.{where_so, why_stopped}
use Rattle.ss_laws.specs.Laws.{AbsenceLaw, is_of_batch}
use Rattle.ss_route.specs.declared.manner.Manner.{Manner}
use Rattle.ss_route.specs.declared.manner.Manner.TheVariants.{Profile, Browser}
use Rattle.ss_route.specs.Conditions.{cond_meant}
use Rattle.ss_route.specs.Sending.{request_meant}
use Rattle.ss_account.specs.Keeping.{is_for_keeper}
use Rattle.ss_serving.specs.Bookmarks.{Server}
use Rattle.ss_serving.specs.Steps.{Answers}
use Rattle.ss_promises.specs.Exchanges.{IsMeantAlike}

-- ---- conditions

pub own_condition : (request : Request) → with_condition (condition_of request) request ≡ request
own_condition (Info what x) = refl
own_condition (DeleteAll x) = refl
own_condition (ListOf collection query x) = refl
own_condition (Post collection records mode x) = refl
own_condition (DeleteCollection collection x) = refl
own_condition (DeleteIds collection ids x) = refl
own_condition (GetItem collection id x) = refl
own_condition (Put collection id fields x) = refl
own_condition (DeleteItem collection id x) = refl

-- browsers mean another condition only by that nothing has changed since 0
meant_same : (c : Cond) → (c ≡ IfUnmodified 0 → ⊥) → cond_meant Browser c ≡ c
meant_same Free other = refl
meant_same (IfModified since) other = refl
meant_same IfAbsent other = refl
meant_same (IfUnmodified since) other = by (since == 0) refl
  where
    by : (b : Bool) → (since == 0) ≡ b → cond b IfAbsent (IfUnmodified since) ≡ IfUnmodified since
    by true e = absurd (other (ap IfUnmodified (eqb-true since 0 e)))
    by false e = refl

pub meant_by_the_letter : (request : Request) → request_meant Profile request ≡ request
meant_by_the_letter = own_condition

pub meant_as_is : (request : Request) → (condition_of request ≡ IfUnmodified 0 → ⊥) → request_meant Browser request ≡ request
meant_as_is request other = ap (λ c. with_condition c request) (meant_same (condition_of request) other) ∙ own_condition request

pub meant_absent : (request : Request) → condition_of request ≡ IfUnmodified 0 → request_meant Browser request ≡ with_condition IfAbsent request
meant_absent request e = ap (λ c. with_condition (cond_meant Browser c) request) e

-- ---- what the account does

-- the refusals behind that by the condition
abbrev behind : Plain → Request → List (Option Refusal)
behind account request =
    where_so (lacks_room account request) NoMoreBatches
    ∷ where_so (misses_batch account request) NoBatch
    ∷ where_so (overfills_batch account request) BatchFull
    ∷ where_so (is_write account request && nat_le last_stamp account.store) ClockEnded
    ∷ where_so (is_write account request && is_over (effect account request)) AccountFull
    ∷ []

-- whether the keeper is asked, by what the condition says
abbrev asks_keeper : Plain → Request → Option ℕ → Bool
asks_keeper account request stop =
    (is_write account request || is_of_batch request)
    && is_none (first_some (where_so (misses_item account request) NoItem ∷ option_map why_stopped stop ∷ behind account request))

-- the condition of a request shows in that refusal alone
keeper_by : (account : Plain) (c : Cond) (request : Request)
    → is_for_keeper account (with_condition c request) ≡ asks_keeper account request (stops c (is_there account request) (target_time account request))
keeper_by account c (Info what x) = refl
keeper_by account c (DeleteAll x) = refl
keeper_by account c (ListOf collection query x) = refl
keeper_by account c (Post collection records mode x) = refl
keeper_by account c (DeleteCollection collection x) = refl
keeper_by account c (DeleteIds collection ids x) = refl
keeper_by account c (GetItem collection id x) = refl
keeper_by account c (Put collection id fields x) = refl
keeper_by account c (DeleteItem collection id x) = refl

-- two requests that an account answers alike, and that ask its keeper alike
pub record Alike (account : Plain) (now : ℕ) (one other : Request) : Type 0 where
  pub api : api account now one ≡ api account now other
  pub keeper : is_for_keeper (tick account now) one ≡ is_for_keeper (tick account now) other

alike-from : (account : Plain) (now : ℕ) (one other : Request) → one ≡ other → Alike account now one other
alike-from account now one other e = record { api = ap (api account now) e; keeper = ap (is_for_keeper (tick account now)) e }

alike-absent : (account : Plain) (now : ℕ) (request : Request) → AbsenceLaw account now request → condition_of request ≡ IfUnmodified 0
    → is_there (tick account now) request ≡ nat_lt 0 (target_time (tick account now) request) → Alike account now (with_condition IfAbsent request) request
alike-absent account now request law e same =
    let own : with_condition (IfUnmodified 0) request ≡ request = ap (λ c. with_condition c request) (sym e) ∙ own_condition request in
    let ticked : Plain = tick account now in
    record {
      api = law.unmodified same ∙ ap (api account now) own;
      keeper = keeper_by ticked IfAbsent request
          ∙ ap (λ there. asks_keeper ticked request (stops IfAbsent there (target_time ticked request))) same
          ∙ absent_stops (nat_lt 0 (target_time ticked request))
          ∙ sym (keeper_by ticked (IfUnmodified 0) request)
          ∙ ap (is_for_keeper ticked) own;
    }
  where
    absent_stops : (b : Bool) → asks_keeper (tick account now) request (stops IfAbsent b (target_time (tick account now) request)) ≡ asks_keeper (tick account now) request (cond b (Option.Some 412) Option.None)
    absent_stops true = refl
    absent_stops false = refl

-- a request as it is meant in a manner, where it means the same in either
pub meant_alike : (manner : Manner) (account : Plain) (now : ℕ) (request : Request) → AbsenceLaw account now request → IsMeantAlike manner account now request
    → Alike account now (request_meant manner request) request
meant_alike Profile account now request law alike = alike-from account now (request_meant Profile request) request (meant_by_the_letter request)
meant_alike Browser account now request law alike = by (condition_of request) refl
  where
    other : (c : Cond) → condition_of request ≡ c → (c ≡ IfUnmodified 0 → ⊥) → Alike account now (request_meant Browser request) request
    other c e differs = alike-from account now (request_meant Browser request) request (meant_as_is request (λ is. differs (sym e ∙ is)))

    unmodified : (since : ℕ) (b : Bool) → (since == 0) ≡ b → condition_of request ≡ IfUnmodified since → Alike account now (request_meant Browser request) request
    unmodified since true t e =
        let zero_is : condition_of request ≡ IfUnmodified 0 = e ∙ ap IfUnmodified (eqb-true since 0 t) in
        subst (λ q. Alike account now q request) (sym (meant_absent request zero_is)) (alike-absent account now request law zero_is (alike zero_is))
    unmodified since false t e = other (IfUnmodified since) e (λ is. not_zero since t is)
      where
        not_zero : (n : ℕ) → (n == 0) ≡ false → IfUnmodified n ≡ IfUnmodified 0 → ⊥
        not_zero n f is = let z : n ≡ 0 = ap time_of is in let clash : true ≡ false = sym (ap (λ k. k == 0) z) ∙ f in cc
          where
            time_of : Cond → ℕ
            time_of Free = 0
            time_of (IfModified t) = 0
            time_of (IfUnmodified t) = t
            time_of IfAbsent = 0

    by : (c : Cond) → condition_of request ≡ c → Alike account now (request_meant Browser request) request
    by Free e = other Free e (λ is. cc)
    by (IfModified since) e = other (IfModified since) e (λ is. cc)
    by IfAbsent e = other IfAbsent e (λ is. cc)
    by (IfUnmodified since) e = unmodified since (since == 0) refl e

pub answers-alike : (before after : Server) (now : ℕ) (one other : Request) → Alike before.account now one other → Answers before now one after → Answers before now other after
answers-alike before after now one other s a = record {
  account = subst (λ (o : Outcome). SameAccount o.account after.account) s.api a.account;
  valid = a.valid;
  kept = λ e. a.kept (s.keeper ∙ e);
  left = λ e. a.left (s.keeper ∙ e);
}
