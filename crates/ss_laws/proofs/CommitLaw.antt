-- A commit is answered 200 exactly where nothing stands against it.
use Rattle.std.specs.Prelude.{◌≡◌, ℕ, ◌<◌, Bool, true, false, ◌&&◌, List, Option, Some, None, option_map, is_none}
use Rattle.std.specs.Prelude.{IsSome, nat_le, refl}
use Rattle.std.proofs.Common.{ap, arith}
use Rattle.std.proofs.lemmas.Bool.Decides.{nat_tests}
use Rattle.ss_text.specs.Time.{last_stamp, stops}
use Rattle.ss_text.specs.declared.stamps.Cond.{Cond}
use Rattle.ss_bso.specs.declared.parts.Records.{Records}
use Rattle.ss_bso.specs.declared.account.Plain.{Plain}
use Rattle.ss_bso.specs.Account.{tick}
use Rattle.ss_bso.specs.Validity.{IsWithinLimits}
use Rattle.ss_query.specs.declared.requests.Request.{Request}
use Rattle.ss_query.specs.declared.requests.Request.TheVariants.{Post}
use Rattle.ss_query.specs.declared.requests.Mode.TheVariants.{Commit}
use Rattle.ss_query.specs.Refused.{Refusal, NoItem, NotModified, WasModified, NoMoreBatches, NoBatch, BatchFull}
use Rattle.ss_query.specs.Refused.{ClockEnded, AccountFull, collection_time, is_listed, batch_of}
use Rattle.ss_query.specs.Effect.{effect, is_write, is_over}
use Rattle.ss_query.specs.Api.{refusal, outcome, why_stopped}
use Rattle.ss_laws.specs.Laws.{MayCommit, CommitLaw}
use Rattle.ss_laws.proofs.Commit.{passes, passed}
use Rattle.std.proofs.lemmas.Bool.{not-false, not_from_true}

-- a condition stops where it gives a cause
free_from : (stop : Option ℕ) → option_map why_stopped stop ≡ None → stop ≡ None
free_from None e = refl
free_from (Some status) e = cc

some_from : {X : Type 0} (o : Option X) → is_none o ≡ false → IsSome o
some_from None e = cc
some_from (Some x) e = search

none_from : {X : Type 0} (o : Option X) → IsSome o → is_none o ≡ false
none_from None e = cc
none_from (Some x) e = refl

-- the last two tests
pub clock_from : (writes : Bool) (store : ℕ) → (writes && nat_le last_stamp store) ≡ false → writes ≡ true → store < last_stamp
clock_from writes store e f = grind (arith, nat_tests)

clock_test : (writes : Bool) (store : ℕ) → (writes ≡ true → store < last_stamp) → (writes && nat_le last_stamp store) ≡ false
clock_test true store h = let below : store < last_stamp = h refl in grind (arith, nat_tests)
clock_test false store h = refl

pub over_from : (writes : Bool) (account : Plain) → (writes && is_over account) ≡ false → writes ≡ true → IsWithinLimits account
over_from true account e f = record { within = e }
over_from false account e f = cc

pub over_test : (writes : Bool) (account : Plain) → (writes ≡ true → IsWithinLimits account) → (writes && is_over account) ≡ false
over_test true account h = let within : IsWithinLimits account = h refl in within.within
over_test false account h = refl

may_commit : (account : Plain) (collection : List ℕ) (records : Records) (number : ℕ) (condition : Cond) → refusal account (Post collection records (Commit number) condition) ≡ None → MayCommit account collection records number condition
may_commit account collection records number condition e =
    let request : Request = Post collection records (Commit number) condition in
    let p = passes account request e in
    record {
      condition = free_from (stops condition (is_listed account collection) (collection_time account collection)) p.condition;
      live = some_from (batch_of account collection number) p.batch;
      fits = not-false _ p.full;
      clock = clock_from (is_write account request) account.store p.clock;
      room = over_from (is_write account request) (effect account request) p.over;
    }

commits_when : (account : Plain) (collection : List ℕ) (records : Records) (number : ℕ) (condition : Cond) → MayCommit account collection records number condition → refusal account (Post collection records (Commit number) condition) ≡ None
commits_when account collection records number condition may =
    let request : Request = Post collection records (Commit number) condition in
    passed account request (record {
      item = refl;
      condition = ap (option_map why_stopped) may.condition;
      room = refl;
      batch = none_from (batch_of account collection number) may.live;
      full = not_from_true _ may.fits;
      clock = clock_test (is_write account request) account.store may.clock;
      over = over_test (is_write account request) (effect account request) may.room;
    })

-- no refusal has the status 200
refused_otherwise : (account : Plain) (request : Request) (why : Option Refusal) → (outcome account request why).reply.status ≡ 200 → why ≡ None
refused_otherwise account request None e = refl
refused_otherwise account request (Some NoItem) e = absurd (omega (arith, e))
refused_otherwise account request (Some NotModified) e = absurd (omega (arith, e))
refused_otherwise account request (Some WasModified) e = absurd (omega (arith, e))
refused_otherwise account request (Some NoMoreBatches) e = absurd (omega (arith, e))
refused_otherwise account request (Some NoBatch) e = absurd (omega (arith, e))
refused_otherwise account request (Some BatchFull) e = absurd (omega (arith, e))
refused_otherwise account request (Some ClockEnded) e = absurd (omega (arith, e))
refused_otherwise account request (Some AccountFull) e = absurd (omega (arith, e))

pub commit_law : (account : Plain) (now : ℕ) (collection : List ℕ) (records : Records) (number : ℕ) (condition : Cond) → CommitLaw account now collection records number condition
commit_law account now collection records number condition =
    let request : Request = Post collection records (Commit number) condition in
    let ticked : Plain = tick account now in (
      (λ e. may_commit ticked collection records number condition (refused_otherwise ticked request (refusal ticked request) e)),
      (λ may. ap (λ why. (outcome ticked request why).reply.status) (commits_when ticked collection records number condition may)),
    )
