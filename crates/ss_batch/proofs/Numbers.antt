-- Batches whose numbers were given out, no two of them one, and what a change at one place makes of them.
use Rattle.std.specs.Prelude.{◌≡◌, ◌≢◌, ℕ, zero, suc, ◌+◌, ◌-◌, ◌<◌, ◌≤◌, Bool, true, false, not, cond, ◌==◌, nat_lt}
use Rattle.std.specs.Prelude.{List, [], ◌∷◌, ◌++◌, length, get_or, slice_set, remove, position, filter, find, Option}
use Rattle.std.specs.Prelude.{Some, None, IsSome, IsSomeAnd, Ok, Err, bytes_eq, if◌then◌else◌, refl}
use Rattle.std.specs.List.{position_or_len}
use Rattle.std.proofs.Common.{sym, ap, subst, ◌∙◌, arith}
use Rattle.std.proofs.lemmas.Bool.Decides.{nat_tests}
use Rattle.ss_bso.specs.declared.parts.Part.{Part}
use Rattle.ss_bso.specs.declared.account.Staged.{Staged}
use Rattle.ss_batch.specs.declared.faults.StageFault.TheVariants.{OtherCollection}
use Rattle.ss_batch.specs.Stage.{HaveOwnNumbers, HasGivenNumber, IsOther, StageView, has_number, live_batch, reach}
use Rattle.ss_batch.specs.Stage.{live_parts, with_parts}
use Rattle.ss_bso.specs.Batches.{batches_without}
use Rattle.ss_bso.specs.Lists.{Each, Pairs}
use Rattle.ss_bso.proofs.Lists.{Each-and, Each-append, Each-filter, Each-find, Each-imp, Each-map, Each-passes}
use Rattle.ss_bso.proofs.Lists.{Pairs-append, Pairs-filter, Pairs-map, find-passes}
use Rattle.std.proofs.lemmas.Bool.{not-true, eqb-true, ltb-false, ltb-true}

-- the first that passes stands at this place
abbrev pub IsAt : {X : Type 0} → (X → Bool) → List X → ℕ → Type 0
IsAt p [] i = ⊥
IsAt p (x ∷ xs) zero = p x ≡ true
IsAt p (x ∷ xs) (suc i) = (p x ≡ false) × IsAt p xs i

first-at : {X : Type 0} (p : X → Bool) (xs : List X) (i : ℕ) → position_or_len p xs ≡ i → i < length xs → IsAt p xs i
first-at p [] i e lt = absurd (omega (arith, lt))
first-at p (x ∷ xs) zero e lt =
    elim (p x) as (λ v. cond (not v) (1 + position_or_len p xs) 0 ≡ zero → v ≡ true) [ true ↦ (λ h. refl) | false ↦ (λ h. absurd (omega (arith, h))) ] e
first-at p (x ∷ xs) (suc i) e lt =
    elim (p x) as (λ v. cond (not v) (1 + position_or_len p xs) 0 ≡ suc i → (v ≡ false) × IsAt p xs i)
    [ true ↦ (λ h. absurd (omega (arith, h))) | false ↦ (λ h. (refl, first-at p xs i (omega (arith, h)) (omega (arith, lt)))) ] e

pub placed : {X : Type 0} (p : X → Bool) (xs : List X) (i : ℕ) → position p xs ≡ Some i → IsAt p xs i
placed p xs i e =
    let n : ℕ = position_or_len p xs in
    elim (nat_lt n (length xs)) as (λ v. nat_lt n (length xs) ≡ v → cond v (Some n) None ≡ Some i → IsAt p xs i) [
      | true ↦ (λ t h. let same : n ≡ i = cc in first-at p xs i same (subst (λ m. m < length xs) same (ltb-true n (length xs) t)))
      | false ↦ (λ t h. cc)
    ] refl e

none-found : {X : Type 0} (p : X → Bool) (xs : List X) → length xs ≤ position_or_len p xs → find p xs ≡ None
none-found p [] h = refl
none-found p (x ∷ xs) h =
    elim (p x) as (λ v. length (x ∷ xs) ≤ cond (not v) (1 + position_or_len p xs) 0 → cond v (Some x) (find p xs) ≡ None)
    [ true ↦ (λ k. absurd (omega (arith, k))) | false ↦ (λ k. none-found p xs (omega (arith, k))) ] h

pub unplaced : {X : Type 0} (p : X → Bool) (xs : List X) → position p xs ≡ None → find p xs ≡ None
unplaced p xs e =
    let n : ℕ = position_or_len p xs in
    elim (nat_lt n (length xs)) as (λ v. nat_lt n (length xs) ≡ v → cond v (Some n) None ≡ None → find p xs ≡ None) [
      | true ↦ (λ t h. cc)
      | false ↦ (λ t h. none-found p xs (ltb-false n (length xs) t))
    ] refl e

pub at-within : {X : Type 0} (p : X → Bool) (xs : List X) (i : ℕ) → IsAt p xs i → i < length xs
at-within p [] i h = absurd h
at-within p (x ∷ xs) zero h = omega arith
at-within p (x ∷ xs) (suc i) h = let rest : i < length xs = at-within p xs i h.1 in omega (arith, rest)

pub found-at : {X : Type 0} (p : X → Bool) (xs : List X) (i : ℕ) (d : X) → IsAt p xs i → find p xs ≡ Some (get_or xs i d)
found-at p [] i d h = absurd h
found-at p (x ∷ xs) zero d h = ap (λ v. cond v (Some x) (find p xs)) h
found-at p (x ∷ xs) (suc i) d h = ap (λ v. cond v (Some x) (find p xs)) h.0 ∙ found-at p xs i d h.1

-- ---- numbers that were given out, no two of them one

other_number : (m n : ℕ) → m ≢ n → (n == m) ≡ false
other_number m n other =
    elim (n == m) as (λ v. (n == m) ≡ v → v ≡ false) [ true ↦ (λ e. absurd (other (sym (eqb-true n m e)))) | false ↦ (λ e. refl) ] refl

less_number : (n counter : ℕ) → (n == counter) ≡ false → n ≤ counter → n ≤ counter - 1
less_number n counter e le = grind (arith, nat_tests)

pub numbered-filter : (p : Staged → Bool) (counter : ℕ) (batches : List Staged) → HaveOwnNumbers counter batches → HaveOwnNumbers counter (filter p batches)
numbered-filter p counter batches r = record { given = Each-filter (HasGivenNumber counter) p batches r.given; apart = Pairs-filter IsOther p batches r.apart }

pub numbered-with_parts : (number : ℕ) (change : List Part → List Part) (counter : ℕ) (batches : List Staged) → HaveOwnNumbers counter batches → HaveOwnNumbers counter (with_parts number change batches)
numbered-with_parts number change counter batches r = record {
  given = Each-map (HasGivenNumber counter) (HasGivenNumber counter) changed_one (λ batch given. let P : ℕ → Type 0 = λ n. (1 ≤ n) × (n ≤ counter) in subst P (sym (same batch)) given) batches r.given;
  apart = Pairs-map IsOther IsOther changed_one (λ batch other differ e. differ (sym (same batch) ∙ e ∙ same other)) batches r.apart;
}
  where
    changed_one : Staged → Staged
    changed_one = λ batch. if has_number number batch then record batch { parts = change batch.parts } else batch

    same : (batch : Staged) → (if has_number number batch then record batch { parts = change batch.parts } else batch).number ≡ batch.number
    same batch = elim (has_number number batch) as (λ v. (cond v (record batch { parts = change batch.parts }) batch).number ≡ batch.number) [ true ↦ refl | false ↦ refl ]

pub numbered-push : (counter : ℕ) (batches : List Staged) (new : Staged) → new.number ≡ counter + 1 → HaveOwnNumbers counter batches → HaveOwnNumbers (counter + 1) (batches ++ new ∷ [])
numbered-push counter batches new e r = record {
  given =
      Each-append (HasGivenNumber (counter + 1)) batches (new ∷ [])
      (Each-imp (HasGivenNumber counter) (HasGivenNumber (counter + 1)) (λ batch given. let above : 1 ≤ batch.number = given.0 in let within : batch.number ≤ counter = given.1 in (above, omega (arith, within))) batches r.given)
      ((omega (arith, e), omega (arith, e)), tt);
  apart =
      Pairs-append IsOther batches (new ∷ []) r.apart (tt, tt)
      (Each-imp (HasGivenNumber counter) (λ batch. Each (IsOther batch) (new ∷ [])) (λ batch given. let within : batch.number ≤ counter = given.1 in ((λ same. absurd (omega (arith, within, same, e))), tt)) batches r.given);
}

-- a number that no batch has
without-others : (number : ℕ) (batches : List Staged) → Each (λ (other : Staged). number ≢ other.number) batches → batches_without number batches ≡ batches
without-others number [] others = refl
without-others number (batch ∷ batches) others =
    ap (λ v. cond (not v) (batch ∷ batches_without number batches) (batches_without number batches)) (other_number number batch.number others.0)
    ∙ ap (λ rest. batch ∷ rest) (without-others number batches others.1)

with_parts-others : (number : ℕ) (change : List Part → List Part) (batches : List Staged) → Each (λ (other : Staged). number ≢ other.number) batches → with_parts number change batches ≡ batches
with_parts-others number change [] others = refl
with_parts-others number change (batch ∷ batches) others =
    ap (λ v. cond v (record batch { parts = change batch.parts }) batch ∷ with_parts number change batches) (other_number number batch.number others.0)
    ∙ ap (λ rest. batch ∷ rest) (with_parts-others number change batches others.1)

renumbered : (m n : ℕ) (batches : List Staged) → m ≡ n → Each (λ (other : Staged). m ≢ other.number) batches → Each (λ (other : Staged). n ≢ other.number) batches
renumbered m n batches e others = subst (λ k. Each (λ (other : Staged). k ≢ other.number) batches) e others

-- the batch at the place of a number goes, or gets other parts
remove-apart : (number : ℕ) (batches : List Staged) (i : ℕ) → Pairs IsOther batches → IsAt (has_number number) batches i → remove batches i ≡ batches_without number batches
remove-apart number [] i r h = absurd h
remove-apart number (batch ∷ batches) zero r h =
    sym (ap (λ v. cond (not v) (batch ∷ batches_without number batches) (batches_without number batches)) h
    ∙ without-others number batches (renumbered batch.number number batches (eqb-true batch.number number h) r.0))
remove-apart number (batch ∷ batches) (suc i) r h =
    ap (λ rest. batch ∷ rest) (remove-apart number batches i r.1 h.1)
    ∙ sym (ap (λ v. cond (not v) (batch ∷ batches_without number batches) (batches_without number batches)) h.0)

pub remove-at : (number counter : ℕ) (batches : List Staged) (i : ℕ) → HaveOwnNumbers counter batches → IsAt (has_number number) batches i → remove batches i ≡ batches_without number batches
remove-at number counter batches i r h = remove-apart number batches i r.apart h

set-apart : (number : ℕ) (change : List Part → List Part) (batches : List Staged) (i : ℕ) (d new : Staged) → Pairs IsOther batches → IsAt (has_number number) batches i
    → new ≡ record (get_or batches i d) { parts = change (get_or batches i d).parts } → slice_set batches i new ≡ with_parts number change batches
set-apart number change [] i d new r h e = absurd h
set-apart number change (batch ∷ batches) zero d new r h e =
    ap (λ first. first ∷ batches) e
    ∙ sym (ap (λ v. cond v (record batch { parts = change batch.parts }) batch ∷ with_parts number change batches) h
    ∙ ap (λ rest. record batch { parts = change batch.parts } ∷ rest) (with_parts-others number change batches (renumbered batch.number number batches (eqb-true batch.number number h) r.0)))
set-apart number change (batch ∷ batches) (suc i) d new r h e =
    ap (λ rest. batch ∷ rest) (set-apart number change batches i d new r.1 h.1 e)
    ∙ sym (ap (λ v. cond v (record batch { parts = change batch.parts }) batch ∷ with_parts number change batches) h.0)

pub set-at : (number : ℕ) (change : List Part → List Part) (counter : ℕ) (batches : List Staged) (i : ℕ) (d new : Staged) → HaveOwnNumbers counter batches → IsAt (has_number number) batches i
    → new ≡ record (get_or batches i d) { parts = change (get_or batches i d).parts } → slice_set batches i new ≡ with_parts number change batches
set-at number change counter batches i d new r h e = set-apart number change batches i d new r.apart h e

-- a number that is found is above 0
pub above-found : (number counter : ℕ) (batches : List Staged) → HaveOwnNumbers counter batches → IsSome (live_batch number batches) → 0 < number
above-found number counter batches r h = by (live_batch number batches) refl h
  where
    by : (o : Option Staged) → live_batch number batches ≡ o → IsSome o → 0 < number
    by None e some = cc
    by (Some batch) e some =
        let given : HasGivenNumber counter batch = Each-find (HasGivenNumber counter) (has_number number) batches batch e r.given in
        let above : 1 ≤ batch.number = given.0 in
        let same : batch.number ≡ number = eqb-true batch.number number (find-passes (has_number number) batches batch e) in
        omega (arith, above, same)

-- without the last number the numbers are at most the one before it
pub numbered-fewer : (counter : ℕ) (batches : List Staged) → HaveOwnNumbers counter batches → HaveOwnNumbers (counter - 1) (batches_without counter batches)
numbered-fewer counter batches r =
    let others : Staged → Bool = λ batch. not (batch.number == counter) in
    record {
      given =
          Each-imp (λ (batch : Staged). HasGivenNumber counter batch × (others batch ≡ true)) (HasGivenNumber (counter - 1))
          (λ batch both. let given : HasGivenNumber counter batch = both.0 in (given.0, less_number batch.number counter (not-true (batch.number == counter) both.1) given.1)) (filter others batches)
          (Each-and (HasGivenNumber counter) (λ (batch : Staged). others batch ≡ true) (filter others batches) (Each-filter (HasGivenNumber counter) others batches r.given) (Each-passes others batches));
      apart = Pairs-filter IsOther others batches r.apart;
    }

-- what a condition on a live batch says of the one at its place
pub some-at : (P : Staged → Type 0) (number : ℕ) (batches : List Staged) (i : ℕ) (d : Staged) → IsAt (has_number number) batches i → IsSomeAnd (live_batch number batches) P → P (get_or batches i d)
some-at P number batches i d h s = subst (λ o. IsSomeAnd o P) (found-at (has_number number) batches i d h) s

-- the place that a search gave, among the batches that the stage holds
pub placed-in : (number : ℕ) (batches seen : List Staged) (place : Option ℕ) (i : ℕ) → batches ≡ seen → place ≡ position (has_number number) seen → place ≡ Some i → IsAt (has_number number) batches i
placed-in number batches seen place i same e is = subst (λ bs. IsAt (has_number number) bs i) (sym same) (placed (has_number number) seen i (sym e ∙ is))

pub unplaced-in : (number : ℕ) (seen : List Staged) (place : Option ℕ) → place ≡ position (has_number number) seen → place ≡ None → live_batch number seen ≡ None
unplaced-in number seen place e is = unplaced (has_number number) seen (sym e ∙ is)

-- a live batch has a place
pub live-placed : (number : ℕ) (seen : List Staged) (place : Option ℕ) → place ≡ position (has_number number) seen → place ≡ None → IsSome (live_batch number seen) → ⊥
live-placed number seen place e is live =
    let none : live_batch number seen ≡ None = unplaced-in number seen place e is in
    let clash : IsSome {T = Staged} None = subst (λ o. IsSome o) none live in
    cc

-- a batch of which something is known is live
pub live-some : (P : Staged → Type 0) (number : ℕ) (batches : List Staged) → IsSomeAnd (live_batch number batches) P → IsSome (live_batch number batches)
live-some P number batches h = some-from (live_batch number batches) h
  where
    some-from : (o : Option Staged) → IsSomeAnd o P → IsSome o
    some-from None k = absurd k
    some-from (Some x) k = refl

-- a batch whose parts are reached is live, with these parts
pub reached-live : (stage : StageView) (number : ℕ) (collection : List ℕ) (parts : List Part) → live_parts stage number collection ≡ Ok parts → IsSomeAnd (live_batch number stage.batches) (λ staged. staged.parts ≡ parts)
reached-live stage number collection parts e = by (live_batch number stage.batches) e
  where
    by : (o : Option Staged) → reach collection o ≡ Ok parts → IsSomeAnd o (λ staged. staged.parts ≡ parts)
    by None h = cc
    by (Some staged) h =
        elim (bytes_eq staged.collection collection) as (λ v. cond v (Ok staged.parts) (Err OtherCollection) ≡ Ok parts → staged.parts ≡ parts) [ true ↦ (λ k. cc) | false ↦ (λ k. cc) ] h
