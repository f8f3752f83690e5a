-- What a request does to the times, and what a request that is no write or is refused leaves.
use Rattle.std.specs.Prelude.{◌≡◌, ◌≢◌, ℕ, ◌≤◌, Bool, true, false, not, cond, List, [], ◌∷◌, Option, Some, None}
use Rattle.std.specs.Prelude.{is_some, refl}
use Rattle.std.proofs.Common.{ap, sym, subst, ◌∙◌, arith}
use Rattle.ss_bso.specs.declared.parts.Part.{Part}
use Rattle.ss_bso.specs.declared.account.Plain.{Plain}
use Rattle.ss_bso.specs.Account.{tick, time_of}
use Rattle.ss_bso.specs.Write.{account_after_write, rows_without}
use Rattle.ss_query.specs.declared.requests.Request.{Request}
use Rattle.ss_query.specs.declared.requests.Request.TheVariants.{Info, DeleteAll, List as ListOf, Post}
use Rattle.ss_query.specs.declared.requests.Request.TheVariants.{DeleteCollection, DeleteIds, Get, Put, Delete}
use Rattle.ss_query.specs.declared.requests.Mode.TheVariants.{Plain as PlainPost, Begin, Append, Commit}
use Rattle.ss_query.specs.Refused.{Refusal}
use Rattle.ss_query.specs.Effect.{effect, is_write, is_empty, write_some, stamp_in, parts_to_put}
use Rattle.ss_query.specs.Told.{ok_status}
use Rattle.ss_query.specs.Api.{api, refusal, outcome}
use Rattle.ss_laws.specs.Laws.{Rises, StampLaw, ShowsSame, QuietLaw, is_of_batch}
use Rattle.std.proofs.lemmas.Bool.{not-false, not-true}

-- a time that is the account's stamp is later than the store's, and not before the moment
record IsStamp (account : Plain) (left : Plain) : Type 0 where
  store : left.store ≡ stamp_in account
  moment : left.moment ≡ stamp_in account

some_stamp : (account : Plain) (collection : List ℕ) (parts : List Part) → is_empty parts ≡ false → IsStamp account (write_some account collection parts)
some_stamp account collection [] e = cc
some_stamp account collection (part ∷ parts) e = record { store = refl; moment = refl }

ids_stamp : (b : Bool) (account : Plain) (collection : List ℕ) (ids : List (List ℕ)) → b ≡ true
    → IsStamp account (cond b (account_after_write account collection (stamp_in account) (rows_without collection ids account.rows)) account)
ids_stamp true account collection ids e = record { store = refl; moment = refl }
ids_stamp false account collection ids e = cc

effect_stamp : (account : Plain) (request : Request) → is_write account request ≡ true → IsStamp account (effect account request)
effect_stamp account (Info what condition) e = cc
effect_stamp account (DeleteAll condition) e = record { store = refl; moment = refl }
effect_stamp account (ListOf collection query condition) e = cc
effect_stamp account (Post collection records mode condition) e =
    let put = some_stamp account collection (parts_to_put account collection records.parts mode) (not-true (is_empty (parts_to_put account collection records.parts mode)) e) in
    record { store = put.store; moment = put.moment }
effect_stamp account (DeleteCollection collection condition) e = record { store = refl; moment = refl }
effect_stamp account (DeleteIds collection ids condition) e = ids_stamp (is_some (time_of collection account.collections)) account collection ids e
effect_stamp account (Get collection id condition) e = cc
effect_stamp account (Put collection id fields condition) e = record { store = refl; moment = refl }
effect_stamp account (Delete collection id condition) e = record { store = refl; moment = refl }

-- what shows of an account that a request leaves which is no write
some_quiet : (account : Plain) (collection : List ℕ) (parts : List Part) → is_empty parts ≡ true → write_some account collection parts ≡ account
some_quiet account collection [] e = refl
some_quiet account collection (part ∷ parts) e = cc

shows_self : (account : Plain) → ShowsSame account account
shows_self account = record { rows = refl; collections = refl; store = refl; last_delete = refl; moment = refl }

ids_quiet : (b : Bool) (account left : Plain) → b ≡ false → cond b left account ≡ account
ids_quiet true account left e = cc
ids_quiet false account left e = refl

post_quiet : (account left : Plain) (counter : ℕ) → left ≡ account → ShowsSame account left
post_quiet account left counter e = subst (λ (a : Plain). ShowsSame account a) (sym e) (shows_self account)

effect_shows : (account : Plain) (request : Request) → is_write account request ≡ false → ShowsSame account (effect account request)
effect_shows account (Info what condition) e = shows_self account
effect_shows account (DeleteAll condition) e = cc
effect_shows account (ListOf collection query condition) e = shows_self account
effect_shows account (Post collection records mode condition) e =
    let parts = parts_to_put account collection records.parts mode in
    let left = post_quiet account (write_some account collection parts) 0 (some_quiet account collection parts (not-false (is_empty parts) e)) in
    record { rows = left.rows; collections = left.collections; store = left.store; last_delete = left.last_delete; moment = left.moment }
effect_shows account (DeleteCollection collection condition) e = cc
effect_shows account (DeleteIds collection ids condition) e =
    subst (λ (a : Plain). ShowsSame account a)
    (sym (ids_quiet (is_some (time_of collection account.collections)) account (account_after_write account collection (stamp_in account) (rows_without collection ids account.rows)) e))
    (shows_self account)
effect_shows account (Get collection id condition) e = shows_self account
effect_shows account (Put collection id fields condition) e = cc
effect_shows account (Delete collection id condition) e = cc

-- and it is the same account where the request is of no batch
effect_same : (account : Plain) (request : Request) → is_write account request ≡ false → is_of_batch request ≡ false → effect account request ≡ account
effect_same account (Info what condition) e outside = refl
effect_same account (DeleteAll condition) e outside = cc
effect_same account (ListOf collection query condition) e outside = refl
effect_same account (Post collection records PlainPost condition) e outside =
    ap (λ (left : Plain). let a : Plain = record left { batches = account.batches; counter = account.counter } in a)
    (some_quiet account collection records.parts (not-false (is_empty records.parts) e))
effect_same account (Post collection records Begin condition) e outside = cc
effect_same account (Post collection records (Append number) condition) e outside = cc
effect_same account (Post collection records (Commit number) condition) e outside = cc
effect_same account (DeleteCollection collection condition) e outside = cc
effect_same account (DeleteIds collection ids condition) e outside =
    ids_quiet (is_some (time_of collection account.collections)) account (account_after_write account collection (stamp_in account) (rows_without collection ids account.rows)) e
effect_same account (Get collection id condition) e outside = refl
effect_same account (Put collection id fields condition) e outside = cc
effect_same account (Delete collection id condition) e outside = cc

outcome_shows : (account : Plain) (request : Request) (why : Option Refusal) → is_write account request ≡ false → ShowsSame account (outcome account request why).account
outcome_shows account request None e = effect_shows account request e
outcome_shows account request (Some why) e = shows_self account

outcome_same : (account : Plain) (request : Request) (why : Option Refusal) → is_write account request ≡ false → is_of_batch request ≡ false → (outcome account request why).account ≡ account
outcome_same account request None e outside = effect_same account request e outside
outcome_same account request (Some why) e outside = refl

pub quiet_law : (account : Plain) (now : ℕ) (request : Request) → is_write (tick account now) request ≡ false → QuietLaw account now request
quiet_law account now request e =
    let ticked : Plain = tick account now in
    record { shown = outcome_shows ticked request (refusal ticked request) e; outside = outcome_same ticked request (refusal ticked request) e }

-- the moment of what a request leaves
effect_moment : (b : Bool) (account : Plain) (request : Request) → is_write account request ≡ b → account.moment ≤ (effect account request).moment
effect_moment true account request e =
    let stamp : (effect account request).moment ≡ stamp_in account = (effect_stamp account request e).moment in
    omega (arith, stamp)
effect_moment false account request e =
    let same : (effect account request).moment ≡ account.moment = sym (effect_shows account request e).moment in
    omega (arith, same)

outcome_moment : (account : Plain) (request : Request) (why : Option Refusal) → account.moment ≤ (outcome account request why).account.moment
outcome_moment account request None = effect_moment (is_write account request) account request refl
outcome_moment account request (Some why) = omega arith

rises : (account ticked left : Plain) → account.store ≡ ticked.store → IsStamp ticked left → Rises account left
rises account ticked left same stamp =
    let later : left.store ≡ stamp_in ticked = stamp.store in
    record { store = omega (arith, later, same); moment = stamp.moment ∙ sym stamp.store }

pub stamp_law : (account : Plain) (now : ℕ) (request : Request) → StampLaw account now request
stamp_law account now request =
    let ticked : Plain = tick account now in
    record {
      write = λ e passed. subst (λ why. Rises account (outcome ticked request why).account) (sym passed)
          (rises account ticked (effect ticked request) refl (effect_stamp ticked request e));
      quiet = λ e. sym (outcome_shows ticked request (refusal ticked request) e).store;
      moment = let later : ticked.moment ≤ (api account now request).account.moment = outcome_moment ticked request (refusal ticked request) in omega (arith, later);
    }

-- the status of a request that is done is one of two
post_done : (account : Plain) (request : Request) → ok_status request ≢ 200 → ok_status request ≢ 202 → effect account request ≡ account
post_done account (Info what condition) e f = absurd (e refl)
post_done account (DeleteAll condition) e f = absurd (e refl)
post_done account (ListOf collection query condition) e f = absurd (e refl)
post_done account (Post collection records PlainPost condition) e f = absurd (e refl)
post_done account (Post collection records Begin condition) e f = absurd (f refl)
post_done account (Post collection records (Append number) condition) e f = absurd (f refl)
post_done account (Post collection records (Commit number) condition) e f = absurd (e refl)
post_done account (DeleteCollection collection condition) e f = absurd (e refl)
post_done account (DeleteIds collection ids condition) e f = absurd (e refl)
post_done account (Get collection id condition) e f = absurd (e refl)
post_done account (Put collection id fields condition) e f = absurd (e refl)
post_done account (Delete collection id condition) e f = absurd (e refl)

outcome_refused : (account : Plain) (request : Request) (why : Option Refusal) → (outcome account request why).reply.status ≢ 200 → (outcome account request why).reply.status ≢ 202
    → (outcome account request why).account ≡ account
outcome_refused account request None e f = post_done account request e f
outcome_refused account request (Some why) e f = refl

pub refusal_law : (account : Plain) (now : ℕ) (request : Request) → (api account now request).reply.status ≢ 200 → (api account now request).reply.status ≢ 202
    → (api account now request).account ≡ tick account now
refusal_law account now request e f = outcome_refused (tick account now) request (refusal (tick account now) request) e f
