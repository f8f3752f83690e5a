-- An account that is opened again from what its keeper tells.
use Rattle.std.specs.Prelude.{◌≡◌, ◌⊎◌, ℕ, ◌≤◌, max, Bool, true, false, List, [], ◌∷◌, filter, Option, Some, None}
use Rattle.std.specs.Prelude.{IfSome, Result, Ok, Err, IfOk, refl}
use Rattle.std.proofs.Common.{sym, ap, subst, inl, inr, ◌∙◌, arith}
use Rattle.std.proofs.lemmas.Bool.Decides.{nat_tests}
use Rattle.std.proofs.lemmas.Option.{none-some}
use Rattle.ss_text.specs.Time.{after, last_stamp}
use Rattle.ss_text.specs.Texts.{IsReordering, chain}
use Rattle.ss_bso.specs.declared.account.Plain.{Plain}
use Rattle.ss_bso.specs.declared.account.Staged.{Staged}
use Rattle.ss_bso.specs.declared.changes.Kept.{Kept}
use Rattle.ss_bso.specs.Account.{is_alive, is_open, tick}
use Rattle.ss_bso.specs.Changes.{latest, account_at_opening}
use Rattle.ss_bso.specs.Lists.{Each}
use Rattle.ss_bso.specs.Validity.{IsValid, IsValidBatch, SameAccount}
use Rattle.ss_bso.proofs.Lists.{Each-filter, Each-from_All, Each-imp}
use Rattle.ss_bso.proofs.Reordering.{Each-reordered, reordered-filter}
use Rattle.ss_index.proofs.Rising.{filter-each}
use Rattle.ss_writes.proofs.Changing.{filter-absorb}
use Rattle.ss_query.specs.declared.requests.Request.{Request}
use Rattle.ss_query.specs.Api.{api, outcome, refusal}
use Rattle.ss_laws.specs.Laws.{SameOutcome}
use Rattle.ss_laws.proofs.SameApi.{order_law}
use Rattle.ss_laws.proofs.Valid.{valid-tick}
use Rattle.ss_account.specs.declared.faults.OpenFault.{OpenFault}
use Rattle.ss_account.specs.declared.faults.OpenFault.TheVariants.{Keeper, BadRow, BadCollection, BadBatch, Memory}
use Rattle.ss_account.specs.Keeping.{IsKeptAccount}
use Rattle.ss_account.specs.Opening.{IsFaultOf, IsGood}
use Rattle.ss_account.proofs.Keeping.{alive-again}
use Rattle.ss_promises.specs.Restarts.{GoesOn}

-- ---- batches at moments

pub open_before : (earlier later : ℕ) (batch : Staged) → earlier ≤ later → is_open later batch ≡ true → is_open earlier batch ≡ true
open_before earlier later batch le e = grind (arith, nat_tests)

open-again : (earlier later : ℕ) (batches : List Staged) → earlier ≤ later → filter (is_open later) (filter (is_open earlier) batches) ≡ filter (is_open later) batches
open-again earlier later batches le = filter-absorb (is_open later) (is_open earlier) batches (λ batch e. open_before earlier later batch le e)

-- a batch that is over began before
begun_by : (moment : ℕ) (batch : Staged) (now : Bool) → is_open moment batch ≡ now → (is_open moment batch ≡ true → batch.begun ≤ moment) → batch.begun ≤ moment
begun_by moment batch true e h = h e
begun_by moment batch false e h = grind (arith, nat_tests)

pub latest_below : (time moment : ℕ) (batches : List Staged) → time ≤ moment → Each (λ (batch : Staged). batch.begun ≤ moment) batches → latest time batches ≤ moment
latest_below time moment [] le h = le
latest_below time moment (batch ∷ batches) le h =
    let first : batch.begun ≤ moment = h.0 in
    latest_below (max time batch.begun) moment batches (omega (arith, le, first)) h.1

-- each batch that is kept began by the account's moment: it is one of the account's, or over
kept_begun : (kept : Kept) (account : Plain) → IsValid account → IsKeptAccount kept account → Each (λ (batch : Staged). batch.begun ≤ account.moment) kept.batches
kept_begun kept account valid k =
    let Begun : Staged → Type 0 = λ batch. batch.begun ≤ account.moment in
    let own : Each Begun account.batches = Each-imp (IsValidBatch account) Begun (λ batch v. v.begun) account.batches (Each-from_All (IsValidBatch account) account.batches valid.batches) in
    let open_ones : Each Begun (filter (is_open account.moment) kept.batches) =
    Each-reordered Begun (k.batches account.moment (omega arith)) (Each-filter Begun (is_open account.moment) account.batches own) in
    Each-imp (λ (batch : Staged). is_open account.moment batch ≡ true → Begun batch) Begun (λ batch h. begun_by account.moment batch (is_open account.moment batch) refl h) kept.batches
    (filter-each Begun (is_open account.moment) kept.batches open_ones)

-- the moment of the account that is opened isn't later
opened_before : (kept : Kept) (account : Plain) → IsValid account → IsKeptAccount kept account → latest kept.store kept.batches ≤ account.moment
opened_before kept account valid k =
    let store : account.store ≤ account.moment = valid.store in
    let same : account.store ≡ kept.store = k.store in
    latest_below kept.store account.moment kept.batches (omega (arith, store, same)) (kept_begun kept account valid k)

-- ---- readings of the clock

-- a reading after an earlier one
tick-twice : (account : Plain) (first now : ℕ) → first ≤ now → tick (tick account first) now ≡ tick account now
tick-twice account first now le =
    let start : ℕ = after account.moment first in
    let is : after start now ≡ after account.moment now = omega arith in
    let low : start ≤ after account.moment now = omega arith in
    (λ i. record {
      rows = filter (is_alive (is i)) (filter (is_alive start) account.rows);
      collections = account.collections;
      store = account.store;
      last_delete = account.last_delete;
      moment = is i;
      counter = account.counter;
      batches = filter (is_open (is i)) (filter (is_open start) account.batches);
    })
    ∙ (λ i. record {
      rows = alive-again start (after account.moment now) account.rows low i;
      collections = account.collections;
      store = account.store;
      last_delete = account.last_delete;
      moment = after account.moment now;
      counter = account.counter;
      batches = open-again start (after account.moment now) account.batches low i;
    })

api-ticked : (account : Plain) (first now : ℕ) (request : Request) → first ≤ now → api (tick account first) now request ≡ api account now request
api-ticked account first now request le = ap (λ ticked. outcome ticked request (refusal ticked request)) (tick-twice account first now le)

-- accounts that are the same after a reading answer alike at it
alike : (account again : Plain) (now : ℕ) (request : Request) → IsValid account → SameAccount (tick account now) (tick again now)
    → SameOutcome (api account now request) (api again now request)
alike account again now request valid same =
    subst (λ o. SameOutcome o (api again now request)) (api-ticked account now now request (omega arith))
    (subst (λ o. SameOutcome (api (tick account now) now request) o) (api-ticked again now now request (omega arith))
    (order_law (tick account now) (tick again now) now request (valid-tick account now valid) same))

-- ---- the account that is opened again

module _ (kept : Kept) (account again : Plain) (valid : IsValid account) (k : IsKeptAccount kept account) (s : SameAccount (account_at_opening kept) again) where
  below : after (latest kept.store kept.batches) 0 ≤ account.moment
  below = omega (arith, opened_before kept account valid k)

  rows_on : (moment : ℕ) → account.moment ≤ moment → IsReordering (filter (is_alive moment) account.rows) (filter (is_alive moment) again.rows)
  rows_on moment le =
      chain (k.rows moment le)
      (subst (λ rows. IsReordering rows (filter (is_alive moment) again.rows)) (alive-again (after (latest kept.store kept.batches) 0) moment kept.rows (omega (arith, below, le)))
      (reordered-filter (is_alive moment) s.rows))

  batches_on : (moment : ℕ) → account.moment ≤ moment → IsReordering (filter (is_open moment) account.batches) (filter (is_open moment) again.batches)
  batches_on moment le =
      chain (k.batches moment le)
      (subst (λ batches. IsReordering batches (filter (is_open moment) again.batches)) (open-again (after (latest kept.store kept.batches) 0) moment kept.batches (omega (arith, below, le)))
      (reordered-filter (is_open moment) s.batches))

  moment_on : again.moment ≤ account.moment
  moment_on = omega (arith, below, s.moment)

  ticks_on : (now : ℕ) → account.moment ≤ now → SameAccount (tick account now) (tick again now)
  ticks_on now le =
      let last : account.moment ≤ last_stamp = valid.moment in
      let same : after account.moment now ≡ after again.moment now = omega (arith, le, last, moment_on) in
      let up : account.moment ≤ after account.moment now = omega arith in
      record {
        rows = subst (λ moment. IsReordering (filter (is_alive (after account.moment now)) account.rows) (filter (is_alive moment) again.rows)) same (rows_on (after account.moment now) up);
        collections = chain k.collections s.collections;
        batches = subst (λ moment. IsReordering (filter (is_open (after account.moment now)) account.batches) (filter (is_open moment) again.batches)) same (batches_on (after account.moment now) up);
        store = k.store ∙ s.store;
        last_delete = k.last_delete ∙ s.last_delete;
        moment = same;
        counter = k.counter ∙ s.counter;
      }

  pub goes_on : GoesOn account again
  goes_on = record {
    collections = chain k.collections s.collections;
    store = k.store ∙ s.store;
    last_delete = k.last_delete ∙ s.last_delete;
    counter = k.counter ∙ s.counter;
    moment = moment_on;
    rows = rows_on;
    batches = batches_on;
    ticks = ticks_on;
    answers = λ now request le. alike account again now request valid (ticks_on now le);
  }

-- a reading of 0 changes nothing of this
pub goes_on-before : (account again : Plain) → GoesOn (tick account 0) again → GoesOn account again
goes_on-before account again g =
    let is : after account.moment 0 ≡ account.moment = omega arith in
    let up : (moment : ℕ) → account.moment ≤ moment → after account.moment 0 ≤ moment = λ moment le. omega (arith, le) in
    record {
      collections = g.collections;
      store = g.store;
      last_delete = g.last_delete;
      counter = g.counter;
      moment = subst (λ moment. again.moment ≤ moment) is g.moment;
      rows = λ moment le. subst (λ rows. IsReordering rows (filter (is_alive moment) again.rows)) (alive-again (after account.moment 0) moment account.rows (up moment le)) (g.rows moment (up moment le));
      batches = λ moment le. subst (λ batches. IsReordering batches (filter (is_open moment) again.batches)) (open-again (after account.moment 0) moment account.batches (up moment le)) (g.batches moment (up moment le));
      ticks = λ now le. subst (λ ticked. SameAccount ticked (tick again now)) (tick-twice account 0 now (omega arith)) (g.ticks now (up now le));
      answers = λ now request le. subst (λ o. SameOutcome o (api again now request)) (api-ticked account 0 now request (omega arith)) (g.answers now request (up now le));
    }

-- ---- refusals

-- what can be opened is refused since the keeper failed, or for want of memory
pub refused_by : (kept : Kept) (fault : OpenFault) → IsGood kept → IsFaultOf kept fault → (fault ≡ Keeper) ⊎ (fault ≡ Memory)
refused_by kept Keeper good h = inl refl
refused_by kept Memory good h = inr refl
refused_by kept (BadCollection n) good h = absurd (none-some n (sym good.collections ∙ h))
refused_by kept (BadRow n) good h = absurd (none-some n (sym good.rows ∙ h.1))
refused_by kept (BadBatch n) good h = absurd (none-some n (sym good.batches ∙ h.2))

pub told_on : (told : Option Kept) (before account again : Plain) → account ≡ tick before 0 → IsValid account → IfSome told (λ kept. IsKeptAccount kept account)
    → IfSome told (λ kept. SameAccount (account_at_opening kept) again) → IfSome told (λ kept. GoesOn before again)
told_on None before account again is valid k s = tt
told_on (Some kept) before account again is valid k s = goes_on-before before again (subst (λ a. GoesOn a again) is (goes_on kept account again valid k s))

pub told_refused : (told : Option Kept) (fault : OpenFault) → IfSome told IsGood → IfSome told (λ kept. IsFaultOf kept fault)
    → IfSome told (λ kept. (fault ≡ Keeper) ⊎ (fault ≡ Memory))
told_refused None fault good h = tt
told_refused (Some kept) fault good h = refused_by kept fault good h

-- of what an opening answers
pub opened_on : {A E : Type 0} (plain : A → Plain) (r : Result A E) (told now : Option Kept) (before account : Plain) → now ≡ told → account ≡ tick before 0 → IsValid account → IfSome told (λ kept. IsKeptAccount kept account)
    → IfOk r (λ again. IfSome now (λ kept. SameAccount (account_at_opening kept) (plain again))) → IfOk r (λ again. IfSome told (λ kept. GoesOn before (plain again)))
opened_on plain (Ok again) told now before account same is valid k s =
    told_on told before account (plain again) is valid k (subst (λ (t : Option Kept). IfSome t (λ kept. SameAccount (account_at_opening kept) (plain again))) same s)
opened_on plain (Err e) told now before account same is valid k s = tt
