-- An account stays sound: when it is opened, when its clock is read, and when its keeper was asked.
use Rattle.std.specs.Prelude.{◌≡◌, ℕ, ◌+◌, ◌≤◌, Bool, not, List, [], ◌++◌, length, filter, Option, Some, None, IfSome}
use Rattle.std.specs.Prelude.{refl}
use Rattle.std.proofs.Common.{subst, sym, ap, ◌∙◌, arith}
use Rattle.std.proofs.lemmas.List.{length-append, length-map}
use Rattle.ss_text.specs.Time.{after, last_stamp}
use Rattle.ss_bso.specs.declared.account.Plain.{Plain}
use Rattle.ss_bso.specs.declared.account.Staged.{Staged}
use Rattle.ss_bso.specs.declared.changes.Kept.{Kept}
use Rattle.ss_bso.specs.Account.{is_open, tick}
use Rattle.ss_bso.specs.Changes.{kept_of, account_at_opening, plain_of}
use Rattle.ss_bso.specs.Limits.{most_live_batches}
use Rattle.ss_bso.specs.Validity.{IsValid, SameAccount}
use Rattle.ss_bso.proofs.Reordering.{reordered-sym}
use Rattle.ss_keeper.specs.Keeping.{TellsKept}
use Rattle.ss_laws.proofs.SameApi.{tick-same}
use Rattle.ss_laws.proofs.SameValid.{valid-same}
use Rattle.ss_laws.proofs.Valid.{valid-tick}
use Rattle.ss_account.specs.Keeping.{IsHeldBy, IsKeptBeside, IsKeptBesideBy, IsOpenedAccount, IsSound, IsWhole}
use Rattle.ss_account.specs.Opening.{IsGood}
use Rattle.ss_writes.specs.Pending.{numbers_of}
use Rattle.ss_account.proofs.Ending.{length-parted}
use Rattle.ss_account.proofs.Keeping.{beside-tick, beside-whole, beside_by-held, kept_by-beside}
use Rattle.ss_account.proofs.Opened.{good-held, opened-again, valid-plain_of}

-- an account that is the one that what is kept stands for
whole-plain_of : (kept : Kept) (account : Plain) → SameAccount (plain_of kept) account → IsWhole kept account
whole-plain_of kept account s = record {
  rows = reordered-sym s.rows;
  collections = reordered-sym s.collections;
  batches = reordered-sym s.batches;
  store = sym s.store;
  last_delete = sym s.last_delete;
  counter = sym s.counter;
}

-- what is told where this was given
told-as : (told : Option Kept) (kept : Kept) (P : Kept → Type 0) → TellsKept kept told → P kept → IfSome told P
told-as None kept P is p = tt
told-as (Some x) kept P is p = subst P (is x refl) p

-- an account stays sound that shows the same, over a keeper that tells the same
pub sound-same : (told now : Option Kept) (account left : Plain) (ended more : List ℕ) → now ≡ told → left ≡ account → more ≡ ended → IsSound told account ended → IsSound now left more
sound-same told now account left ended more t l e h =
    subst (λ (x : Option Kept). IsSound x left more) (sym t) (subst (λ (a : Plain). IsSound told a more) (sym l) (subst (λ (ns : List ℕ). IsSound told account ns) (sym e) h))

-- an account is sound where the keeper tells just it
pub sound-held : (told : Option Kept) (account : Plain) (ended : List ℕ) → ended ≡ [] → IsHeldBy told account → IsValid account → IsSound told account ended
sound-held told account ended e h valid =
    let few : length account.batches ≤ most_live_batches = valid.few in
    subst (λ (ns : List ℕ). IsSound told account ns) (sym e) (record {
      valid = valid;
      kept = beside_by-held told account h;
      again = good-held told account h valid;
      few = omega (arith, few);
    })

-- the clock
pub sound-tick : (told : Option Kept) (account left : Plain) (ended more : List ℕ) (now : ℕ) → left ≡ tick account now → more ≡ ended ++ numbers_of (filter (λ batch. not (is_open left.moment batch)) account.batches)
    → IsSound told account ended → IsSound told left more
sound-tick told account left ended more now l e h =
    let over : Staged → Bool = λ batch. not (is_open (after account.moment now) batch) in
    let noted : more ≡ ended ++ numbers_of (filter over account.batches) = e ∙ ap (λ (a : Plain). ended ++ numbers_of (filter (λ batch. not (is_open a.moment batch)) account.batches)) l in
    let few : length ended + length account.batches ≤ most_live_batches = h.few in
    let whole : length (ended ++ numbers_of (filter over account.batches)) ≡ length ended + length (numbers_of (filter over account.batches)) = length-append ended (numbers_of (filter over account.batches)) in
    let as_many : length (numbers_of (filter over account.batches)) ≡ length (filter over account.batches) = length-map (filter over account.batches) (λ (batch : Staged). batch.number) in
    let parted : length (filter over account.batches) + length (filter (is_open (after account.moment now)) account.batches) ≡ length account.batches = length-parted (is_open (after account.moment now)) account.batches in
    subst (λ (a : Plain). IsSound told a more) (sym l) (subst (λ (ns : List ℕ). IsSound told (tick account now) ns) (sym noted) (record {
      valid = valid-tick account now h.valid;
      kept = by told h.kept;
      again = h.again;
      few = omega (arith, few, whole, as_many, parted);
    }))
  where
    by : (told : Option Kept) → IsKeptBesideBy ended told account
        → IsKeptBesideBy (ended ++ numbers_of (filter (λ batch. not (is_open (after account.moment now) batch)) account.batches)) told (tick account now)
    by None k = k
    by (Some kept) k = beside-tick ended kept account now h.valid k

-- an account that was opened
pub opened-sound : (told : Option Kept) (kept : Kept) (account left : Plain) (ended more : List ℕ) → TellsKept kept told → IsGood kept → account.moment ≤ last_stamp → SameAccount (plain_of kept) account → account ≡ plain_of (kept_of account) → ended ≡ []
    → left ≡ tick account 0 → more ≡ ended ++ numbers_of (filter (λ batch. not (is_open left.moment batch)) account.batches) → IsOpenedAccount told left more
opened-sound told kept account left ended more is good last a own e l m =
    let valid : IsValid account = valid-same (plain_of kept) account (valid-plain_of kept (subst (λ (moment : ℕ). moment ≤ last_stamp) (sym a.moment) last) good) a in
    let few : length account.batches ≤ most_live_batches = valid.few in
    let begin : IsSound told account [] = record {
      valid = valid;
      kept = told-as told kept (λ (k : Kept). IsKeptBeside [] k account) is (beside-whole kept account (whole-plain_of kept account a));
      again = told-as told kept IsGood is good;
      few = omega (arith, few);
    } in
    let sound = sound-tick told account left ended more 0 l m (sound-same told told account account [] ended refl refl e begin) in
    record {
      sound = sound;
      kept = kept_by-beside more told left sound.kept;
      stands = told-as told kept (λ (k : Kept). SameAccount (account_at_opening k) left) is (subst (λ (p : Plain). SameAccount (account_at_opening kept) p) (sym l) (tick-same (plain_of kept) account 0 a));
      begins = l ∙ ap (λ (p : Plain). tick p 0) own ∙ sym (opened-again (kept_of account)) ∙ ap (λ (p : Plain). account_at_opening (kept_of p)) (sym (l ∙ ap (λ (p : Plain). tick p 0) own));
    }
