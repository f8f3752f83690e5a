-- A begin, and what takes it back.
use Rattle.std.specs.Prelude.{◌≡◌, ℕ, ◌+◌, ◌-◌, ◌≤◌, Bool, true, false, not, cond, ◌==◌, List, [], ◌∷◌, ◌++◌, filter}
use Rattle.std.specs.Prelude.{find, length, map, take, is_some, IsSome, IsSomeAnd, Option, Some, None, refl}
use Rattle.std.proofs.Common.{subst, sym, ap, ◌∙◌, arith}
use Rattle.std.proofs.lemmas.Bool.Decides.{nat_tests}
use Rattle.std.proofs.Math.Seq.{take-append_seam}
use Rattle.std.proofs.lemmas.List.{append-nil, length-append}
use Rattle.std.proofs.lemmas.List.Elements.{filter-append}
use Rattle.ss_bso.specs.declared.parts.Part.{Part}
use Rattle.ss_bso.specs.declared.account.Plain.{Plain}
use Rattle.ss_bso.specs.declared.account.Staged.{Staged}
use Rattle.ss_bso.specs.Batches.{batches_without, grown}
use Rattle.ss_bso.specs.Validity.{IsValid, IsValidBatch}
use Rattle.ss_batch.specs.Stage.{append_fault, stage_after_append, stage_after_begin, has_number, more, live_batch}
use Rattle.ss_batch.specs.Stage.{reach}
use Rattle.ss_batch.specs.Stage.{stage_after_cut}
use Rattle.ss_account.specs.Steps.{stage_of, with_stage}
use Rattle.ss_bso.proofs.Lists.{Each-imp, Each-from_All}
use Rattle.ss_text.proofs.Basics.{own_number}
use Rattle.ss_laws.proofs.Valid.{number-grown}
use Rattle.ss_index.proofs.Shelves.{filter-every}

other_number : (m n : ℕ) → m ≤ n → (m == (n + 1)) ≡ false
other_number m n le = grind (arith, nat_tests)

find-last : {X : Type 0} (p : X → Bool) (xs : List X) (y : X) → p y ≡ true → is_some (find p (xs ++ y ∷ [])) ≡ true
find-last p [] y e = ap (λ v. is_some (cond v (Some y) (find p []))) e
find-last {X} p (x ∷ xs) y e = elim (p x) as (λ v. is_some (cond v (Some x) (find p (xs ++ y ∷ []))) ≡ true) [ true ↦ refl | false ↦ find-last p xs y e ]

-- an account with a batch begun
abbrev pub with_begun : Plain → List ℕ → List Part → Plain
with_begun account collection parts = with_stage account (stage_after_begin (stage_of account) account.moment collection parts)

pub begun-live : (account left : Plain) (collection : List ℕ) (parts : List Part) → left ≡ with_begun account collection parts → IsSome (live_batch left.counter left.batches)
begun-live account left collection parts e =
    let new : Staged = record { number = account.counter + 1; collection = collection; begun = account.moment; parts = parts } in
    subst (λ (a : Plain). IsSome (live_batch a.counter a.batches)) (sym e) (find-last (has_number (account.counter + 1)) account.batches new (own_number (account.counter + 1)))

-- the last begin taken back leaves the account as it was
pub begun-back : (account left back : Plain) (collection : List ℕ) (parts : List Part) → IsValid account → left ≡ with_begun account collection parts
    → back ≡ with_stage left (record { counter = left.counter - 1; batches = batches_without left.counter left.batches }) → back ≡ account
begun-back account left back collection parts valid e b =
    let new : Staged = record { number = account.counter + 1; collection = collection; begun = account.moment; parts = parts } in
    let keep : Staged → Bool = λ batch. not (batch.number == (account.counter + 1)) in
    let old : filter keep account.batches ≡ account.batches =
    filter-every keep account.batches (Each-imp (IsValidBatch account) (λ (batch : Staged). keep batch ≡ true) (λ batch h. ap not (other_number batch.number account.counter h.counted)) account.batches
    (Each-from_All (IsValidBatch account) account.batches valid.batches)) in
    let batches : batches_without (account.counter + 1) (account.batches ++ new ∷ []) ≡ account.batches =
    filter-append keep account.batches (new ∷ [])
    ∙ ap (λ (v : Bool). filter keep account.batches ++ cond (not v) (new ∷ []) []) (own_number (account.counter + 1))
    ∙ append-nil (filter keep account.batches) ∙ old in
    let counter : account.counter + 1 - 1 ≡ account.counter = omega arith in
    b ∙ ap (λ (a : Plain). with_stage a (record { counter = a.counter - 1; batches = batches_without a.counter a.batches })) e
    ∙ (λ i. record account { counter = counter i; batches = batches i })

long-grown : (number : ℕ) (parts : List Part) (batch : Staged) → (batch.number == number) ≡ true → length parts ≤ length (grown number parts batch).parts
long-grown number parts batch e =
    let whole : length (batch.parts ++ parts) ≡ length batch.parts + length parts = length-append batch.parts parts in
    let le : length parts ≤ length (batch.parts ++ parts) = omega (arith, whole) in
    subst (λ v. length parts ≤ length (cond v (record batch { parts = batch.parts ++ parts }) batch).parts) (sym e) le

-- the batch holds at least those parts
long-appended : (number : ℕ) (parts : List Part) (batches : List Staged) → IsSome (live_batch number batches) → IsSomeAnd (live_batch number (map (grown number parts) batches)) (λ staged. length parts ≤ length staged.parts)
long-appended number parts [] h = cc
long-appended number parts (batch ∷ batches) h = by (batch.number == number) refl (λ rest. long-appended number parts batches rest)
  where
    test : (grown number parts batch).number == number ≡ (batch.number == number)
    test = ap (λ n. n == number) (number-grown number parts batch)

    by : (v : Bool) → (batch.number == number) ≡ v → (IsSome (live_batch number batches) → IsSomeAnd (live_batch number (map (grown number parts) batches)) (λ staged. length parts ≤ length staged.parts))
        → IsSomeAnd (live_batch number (map (grown number parts) (batch ∷ batches))) (λ staged. length parts ≤ length staged.parts)
    by true e others =
        subst (λ v. IsSomeAnd (cond v (Some (grown number parts batch)) (live_batch number (map (grown number parts) batches))) (λ (staged : Staged). length parts ≤ length staged.parts)) (sym (test ∙ e))
        (long-grown number parts batch e)
    by false e others =
        subst (λ v. IsSomeAnd (cond v (Some (grown number parts batch)) (live_batch number (map (grown number parts) batches))) (λ (staged : Staged). length parts ≤ length staged.parts)) (sym (test ∙ e))
        (others (subst (λ v. IsSome (cond v (Some batch) (live_batch number batches))) e h))

fault-live : (account : Plain) (number : ℕ) (collection : List ℕ) (parts : List Part) → append_fault (stage_of account) number collection parts ≡ None → IsSome (live_batch number account.batches)
fault-live account number collection parts e = by (live_batch number account.batches) e
  where
    by : (o : Option Staged) → more parts (reach collection o) ≡ None → IsSome o
    by None h = cc
    by (Some batch) h = refl

pub appended-long : (account left : Plain) (number : ℕ) (collection : List ℕ) (parts : List Part) → append_fault (stage_of account) number collection parts ≡ None → left ≡ with_stage account (stage_after_append (stage_of account) number parts)
    → IsSomeAnd (live_batch number left.batches) (λ staged. length parts ≤ length staged.parts)
appended-long account left number collection parts fits e =
    subst (λ (a : Plain). IsSomeAnd (live_batch number a.batches) (λ (staged : Staged). length parts ≤ length staged.parts)) (sym e) (long-appended number parts account.batches (fault-live account number collection parts fits))

-- the parts before the last ones
before-last : (xs ys : List Part) → take (length (xs ++ ys) - length ys) (xs ++ ys) ≡ xs
before-last xs ys =
    let whole : length (xs ++ ys) ≡ length xs + length ys = length-append xs ys in
    let left : length (xs ++ ys) - length ys ≡ length xs = omega (arith, whole) in
    ap (λ n. take n (xs ++ ys)) left ∙ take-append_seam xs ys

-- a batch without the last so many parts
abbrev cut_back : ℕ → ℕ → Staged → Staged
cut_back number parts batch = cond (batch.number == number) (record batch { parts = take (length batch.parts - parts) batch.parts }) batch

one-back : (number : ℕ) (parts : List Part) (batch : Staged) → cut_back number (length parts) (grown number parts batch) ≡ batch
one-back number parts batch = by (batch.number == number) refl
  where
    by : (v : Bool) → (batch.number == number) ≡ v → cut_back number (length parts) (cond v (record batch { parts = batch.parts ++ parts }) batch) ≡ batch
    by true e =
        ap (λ w. cond w (record batch { parts = take (length (batch.parts ++ parts) - length parts) (batch.parts ++ parts) }) (record batch { parts = batch.parts ++ parts })) e
        ∙ ap (λ (ps : List Part). record batch { parts = ps }) (before-last batch.parts parts)
    by false e = ap (λ w. cond w (record batch { parts = take (length batch.parts - length parts) batch.parts }) batch) e

all-back : (number : ℕ) (parts : List Part) (batches : List Staged) → map (cut_back number (length parts)) (map (grown number parts) batches) ≡ batches
all-back number parts [] = refl
all-back number parts (batch ∷ batches) = λ i. one-back number parts batch i ∷ all-back number parts batches i

-- the last append taken back leaves the account as it was
pub appended-back : (account left back : Plain) (number : ℕ) (parts : List Part) → left ≡ with_stage account (stage_after_append (stage_of account) number parts)
    → back ≡ with_stage left (stage_after_cut (stage_of left) number (length parts)) → back ≡ account
appended-back account left back number parts e b =
    b ∙ ap (λ (a : Plain). with_stage a (stage_after_cut (stage_of a) number (length parts))) e ∙ (λ i. record account { batches = all-back number parts account.batches i })
