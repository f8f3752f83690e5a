-- Batches that end: what is left of those that a keeper tells, by the numbers of the ones that ended.
use Rattle.std.specs.Prelude.{◌≡◌, ◌≢◌, ℕ, ◌+◌, ◌≤◌, Bool, true, false, not, ◌&&◌, ◌||◌, ◌==◌, cond, List, [], ◌∷◌}
use Rattle.std.specs.Prelude.{◌++◌, length, filter, filter_map, fold, map, All, refl}
use Rattle.std.specs.List.{list_any}
use Rattle.std.proofs.Common.{sym, ap, subst, ◌∙◌, arith}
use Rattle.std.proofs.lemmas.Bool.Decides.{nat_tests}
use Rattle.std.proofs.lemmas.List.{append-nil}
use Rattle.std.proofs.lemmas.List.Elements.{filter_agree}
use Rattle.ss_text.specs.Texts.{IsReordering}
use Rattle.ss_bso.specs.declared.account.Staged.{Staged}
use Rattle.ss_bso.specs.declared.changes.BatchChange.{BatchChange}
use Rattle.ss_bso.specs.declared.changes.BatchChange.TheVariants.{End as EndBatch}
use Rattle.ss_bso.specs.Account.{is_open}
use Rattle.ss_bso.specs.Changes.{batch_grown, batches_changed, begun_by, ends}
use Rattle.ss_bso.specs.Lists.{Each, Pairs}
use Rattle.ss_bso.proofs.Lists.{Each-and, Each-imp, Each-from_All, All-from_Each}
use Rattle.ss_bso.proofs.Reordering.{reordered-filter, Each-reordered}
use Rattle.ss_account.specs.Keeping.{has_ended}
use Rattle.ss_writes.specs.Pending.{numbers_of}
use Rattle.ss_writes.proofs.Changing.{filter-true, filter-both, not_either}
use Rattle.std.proofs.lemmas.Bool.{not-true, ne_eqb}
use Rattle.ss_text.proofs.Basics.{own_number}
use Rattle.ss_index.proofs.Shelves.{filter-same}
use Rattle.ss_index.proofs.Rising.{filter-each}

abbrev pub OtherNumber : Staged → Staged → Type 0
OtherNumber batch other = batch.number ≢ other.number

-- filters

each-all : {X : Type 0} (P : X → Type 0) → ((x : X) → P x) → (xs : List X) → Each P xs
each-all P h [] = tt
each-all P h (x ∷ xs) = (h x, each-all P h xs)

any-append : {X : Type 0} (p : X → Bool) (xs ys : List X) → list_any p (xs ++ ys) ≡ (list_any p xs || list_any p ys)
any-append p [] ys = refl
any-append p (x ∷ xs) ys = ap (λ v. p x || v) (any-append p xs ys) ∙ grouped (p x) (list_any p xs) (list_any p ys)
  where
    grouped : (a b d : Bool) → (a || (b || d)) ≡ ((a || b) || d)
    grouped true b d = refl
    grouped false b d = refl

ended-append : (ended more : List ℕ) (batch : Staged) → has_ended (ended ++ more) batch ≡ (has_ended ended batch || has_ended more batch)
ended-append ended more batch = any-append (λ number. number == batch.number) ended more

not-not : (b : Bool) → not (not b) ≡ b
not-not true = refl
not-not false = refl

-- those that ended first, and then others
pub filter-ended : (ended more : List ℕ) (batches : List Staged) → filter (λ batch. not (has_ended more batch)) (filter (λ batch. not (has_ended ended batch)) batches) ≡ filter (λ batch. not (has_ended (ended ++ more) batch)) batches
filter-ended ended more batches =
    filter-both (λ batch. not (has_ended more batch)) (λ batch. not (has_ended ended batch)) batches
    ∙ filter_agree (λ batch. not (has_ended ended batch) && not (has_ended more batch)) (λ batch. not (has_ended (ended ++ more) batch))
    (λ batch. not_either (has_ended ended batch) (has_ended more batch) ∙ ap not (sym (ended-append ended more batch))) batches

-- the numbers of some of the batches are those of just these
not-named : (batch : Staged) (p : Staged → Bool) (others : List Staged) → Each (OtherNumber batch) others → has_ended (numbers_of (filter p others)) batch ≡ false
not-named batch p [] e = refl
not-named batch p (other ∷ others) e =
    elim (p other) as (λ v. has_ended (numbers_of (cond v (other ∷ filter p others) (filter p others))) batch ≡ false) [
      | true ↦ ap (λ v. v || has_ended (numbers_of (filter p others)) batch) (ne_eqb other.number batch.number (λ same. e.0 (sym same))) ∙ not-named batch p others e.1
      | false ↦ not-named batch p others e.1
    ]

each-named : (p : Staged → Bool) (batches : List Staged) → Pairs OtherNumber batches → Each (λ (batch : Staged). has_ended (numbers_of (filter p batches)) batch ≡ p batch) batches
each-named p [] distinct = tt
each-named p (first ∷ batches) distinct = (
  elim (p first) as (λ v. has_ended (numbers_of (cond v (first ∷ filter p batches) (filter p batches))) first ≡ v) [
    | true ↦ ap (λ v. v || has_ended (numbers_of (filter p batches)) first) (own_number first.number)
    | false ↦ not-named first p batches distinct.0
  ],
  Each-imp (λ (batch : Staged). (has_ended (numbers_of (filter p batches)) batch ≡ p batch) × OtherNumber first batch) (λ (batch : Staged). has_ended (numbers_of (filter p (first ∷ batches))) batch ≡ p batch)
      (λ batch h.
      elim (p first) as (λ v. has_ended (numbers_of (cond v (first ∷ filter p batches) (filter p batches))) batch ≡ p batch) [
        | true ↦ ap (λ v. v || has_ended (numbers_of (filter p batches)) batch) (ne_eqb first.number batch.number h.1) ∙ h.0
        | false ↦ h.0
      ]) batches (Each-and (λ (batch : Staged). has_ended (numbers_of (filter p batches)) batch ≡ p batch) (OtherNumber first) batches (each-named p batches distinct.1) distinct.0),
)

pub filter-named : (p : Staged → Bool) (batches : List Staged) → Pairs OtherNumber batches → filter (λ batch. not (has_ended (numbers_of (filter p batches)) batch)) batches ≡ filter (λ batch. not (p batch)) batches
filter-named p batches distinct =
    filter-same (λ batch. not (has_ended (numbers_of (filter p batches)) batch)) (λ batch. not (p batch)) batches
    (Each-imp (λ (batch : Staged). has_ended (numbers_of (filter p batches)) batch ≡ p batch) (λ (batch : Staged). not (has_ended (numbers_of (filter p batches)) batch) ≡ not (p batch)) (λ batch e. ap not e) batches (each-named p batches distinct))

pub filter-all_gone : {X : Type 0} (xs : List X) → filter (λ x. false) xs ≡ []
filter-all_gone [] = refl
filter-all_gone (x ∷ xs) = filter-all_gone xs

-- changes that end batches, and one more change
any-ends : (number : ℕ) (ended : List ℕ) → list_any (ends number) (map EndBatch ended) ≡ list_any (λ other. other == number) ended
any-ends number [] = refl
any-ends number (other ∷ ended) = ap (λ v. (other == number) || v) (any-ends number ended)

none-begun : (ended : List ℕ) (changes : List BatchChange) → filter_map begun_by (map EndBatch ended ++ changes) ≡ filter_map begun_by changes
none-begun [] changes = refl
none-begun (number ∷ ended) changes = none-begun ended changes

none-grown : (batches : List Staged) (ended : List ℕ) (changes : List BatchChange) → fold batch_grown batches (map EndBatch ended ++ changes) ≡ fold batch_grown batches changes
none-grown batches [] changes = refl
none-grown batches (number ∷ ended) changes = none-grown batches ended changes

pub batches-ended : (batches : List Staged) (ended : List ℕ) → batches_changed batches (map EndBatch ended) ≡ filter (λ batch. not (has_ended ended batch)) batches
batches-ended batches ended =
    let changes : List BatchChange = map EndBatch ended in
    let left : List Staged = filter (λ batch. not (list_any (ends batch.number) changes)) batches in
    let whole : changes ≡ changes ++ [] = sym (append-nil changes) in
    ap (λ (cs : List BatchChange). fold batch_grown (left ++ filter_map begun_by cs) cs) whole
    ∙ none-grown (left ++ filter_map begun_by (changes ++ [])) ended []
    ∙ ap (λ (more : List Staged). left ++ more) (none-begun ended [])
    ∙ append-nil left
    ∙ filter_agree (λ batch. not (list_any (ends batch.number) changes)) (λ batch. not (has_ended ended batch)) (λ batch. ap not (any-ends batch.number ended)) batches

pub batches-one : (batches : List Staged) (ended : List ℕ) (change : BatchChange)
    → batches_changed batches (map EndBatch ended ++ change ∷ []) ≡ batch_grown (filter (λ batch. not (has_ended ended batch || (ends batch.number change || false))) batches ++ filter_map begun_by (change ∷ [])) change
batches-one batches ended change =
    let changes : List BatchChange = map EndBatch ended ++ change ∷ [] in
    let named : (λ (batch : Staged). not (list_any (ends batch.number) changes)) ≡ (λ (batch : Staged). not (has_ended ended batch || (ends batch.number change || false))) =
    λ i batch. not ((any-append (ends batch.number) (map EndBatch ended) (change ∷ []) ∙ ap (λ v. v || (ends batch.number change || false)) (any-ends batch.number ended)) i) in
    none-grown (filter (λ batch. not (list_any (ends batch.number) changes)) batches ++ filter_map begun_by changes) ended (change ∷ [])
    ∙ (λ i. batch_grown (filter (named i) batches ++ none-begun ended (change ∷ []) i) change)

-- what is over stays over
pub over-later : (earlier later : ℕ) (batch : Staged) → earlier ≤ later → is_open earlier batch ≡ false → is_open later batch ≡ false
over-later earlier later batch le e = grind (arith, nat_tests)

pub open_now : (moment : ℕ) (batch : Staged) → batch.begun ≡ moment → is_open moment batch ≡ true
open_now moment batch e = grind (arith, nat_tests)

-- how many are kept and how many are not
pub length-parted : {X : Type 0} (p : X → Bool) (xs : List X) → length (filter (λ x. not (p x)) xs) + length (filter p xs) ≡ length xs
length-parted p [] = refl
length-parted {X} p (x ∷ xs) =
    let rest : length (filter (λ (y : X). not (p y)) xs) + length (filter p xs) ≡ length xs = length-parted p xs in
    elim (p x) as (λ v. length (cond (not v) (x ∷ filter (λ (y : X). not (p y)) xs) (filter (λ (y : X). not (p y)) xs)) + length (cond v (x ∷ filter p xs) (filter p xs)) ≡ length (x ∷ xs)) [
      | true ↦ omega (arith, rest)
      | false ↦ omega (arith, rest)
    ]

-- the batches that are kept, once those that are over at a later moment are noted
pub record Noted (ended : List ℕ) (kept batches : List Staged) (moment : ℕ) : Type 0 where
  pub left : IsReordering batches (filter (λ batch. not (has_ended ended batch)) kept)
  pub over : All (λ batch. has_ended ended batch ≡ true → is_open moment batch ≡ false) kept

pub noted-later : (ended : List ℕ) (kept batches : List Staged) (moment later : ℕ) → moment ≤ later → Pairs OtherNumber batches → Noted ended kept batches moment
    → Noted (ended ++ numbers_of (filter (λ batch. not (is_open later batch)) batches)) kept (filter (is_open later) batches) later
noted-later ended kept batches moment later le distinct n =
    let gone : Staged → Bool = λ batch. not (is_open later batch) in
    let more : List ℕ = numbers_of (filter gone batches) in
    let Named : Staged → Type 0 = λ batch. has_ended more batch ≡ gone batch in
    let mine : filter (λ batch. not (has_ended more batch)) batches ≡ filter (is_open later) batches =
    filter-named gone batches distinct ∙ filter_agree (λ batch. not (gone batch)) (is_open later) (λ batch. not-not (is_open later batch)) batches in
    let named : Each (λ (batch : Staged). not (has_ended ended batch) ≡ true → Named batch) kept =
    filter-each Named (λ batch. not (has_ended ended batch)) kept (Each-reordered Named n.left (each-named gone batches distinct)) in
    let over : Each (λ (batch : Staged). has_ended ended batch ≡ true → is_open moment batch ≡ false) kept = Each-from_All (λ (batch : Staged). has_ended ended batch ≡ true → is_open moment batch ≡ false) kept n.over in
    record {
      left = subst (λ (bs : List Staged). IsReordering bs (filter (λ batch. not (has_ended (ended ++ more) batch)) kept)) mine
          (subst (λ (bs : List Staged). IsReordering (filter (λ batch. not (has_ended more batch)) batches) bs) (filter-ended ended more kept) (reordered-filter (λ batch. not (has_ended more batch)) n.left));
      over = All-from_Each (λ (batch : Staged). has_ended (ended ++ more) batch ≡ true → is_open later batch ≡ false) kept
          (Each-imp (λ (batch : Staged). (not (has_ended ended batch) ≡ true → Named batch) × (has_ended ended batch ≡ true → is_open moment batch ≡ false)) (λ (batch : Staged). has_ended (ended ++ more) batch ≡ true → is_open later batch ≡ false)
          (λ batch h e. by batch (has_ended ended batch) refl h (sym (ended-append ended more batch) ∙ e)) kept
          (Each-and (λ (batch : Staged). not (has_ended ended batch) ≡ true → Named batch) (λ (batch : Staged). has_ended ended batch ≡ true → is_open moment batch ≡ false) kept named over));
    }
  where
    by : (batch : Staged) (was : Bool) → has_ended ended batch ≡ was
        → (not (has_ended ended batch) ≡ true → has_ended (numbers_of (filter (λ (b : Staged). not (is_open later b)) batches)) batch ≡ not (is_open later batch)) × (has_ended ended batch ≡ true → is_open moment batch ≡ false)
        → (has_ended ended batch || has_ended (numbers_of (filter (λ (b : Staged). not (is_open later b)) batches)) batch) ≡ true → is_open later batch ≡ false
    by batch true is h e = over-later moment later batch le (h.1 is)
    by batch false is h e =
        let now : has_ended (numbers_of (filter (λ (b : Staged). not (is_open later b)) batches)) batch ≡ true = sym (ap (λ v. v || has_ended (numbers_of (filter (λ (b : Staged). not (is_open later b)) batches)) batch) is) ∙ e in
        not-true (is_open later batch) (sym (h.0 (ap not is)) ∙ now)

-- the open ones are the same from the moment on
pub noted-open : (ended : List ℕ) (kept batches : List Staged) (moment later : ℕ) → moment ≤ later → Noted ended kept batches moment → IsReordering (filter (is_open later) batches) (filter (is_open later) kept)
noted-open ended kept batches moment later le n =
    subst (λ (bs : List Staged). IsReordering (filter (is_open later) batches) bs) same (reordered-filter (is_open later) n.left)
  where
    by : (batch : Staged) (was : Bool) → has_ended ended batch ≡ was → (has_ended ended batch ≡ true → is_open moment batch ≡ false) → (not was && is_open later batch) ≡ is_open later batch
    by batch true is h = sym (over-later moment later batch le (h is))
    by batch false is h = refl

    same : filter (is_open later) (filter (λ (batch : Staged). not (has_ended ended batch)) kept) ≡ filter (is_open later) kept
    same =
        filter-both (is_open later) (λ batch. not (has_ended ended batch)) kept
        ∙ filter-same (λ (batch : Staged). not (has_ended ended batch) && is_open later batch) (is_open later) kept
        (Each-imp (λ (batch : Staged). has_ended ended batch ≡ true → is_open moment batch ≡ false) (λ (batch : Staged). (not (has_ended ended batch) && is_open later batch) ≡ is_open later batch)
        (λ batch h. by batch (has_ended ended batch) refl h) kept (Each-from_All (λ (batch : Staged). has_ended ended batch ≡ true → is_open moment batch ≡ false) kept n.over))

-- where none has ended, all are left
pub noted-none : (kept batches : List Staged) (moment : ℕ) → IsReordering batches kept → Noted [] kept batches moment
noted-none kept batches moment r = record {
  left = subst (λ (bs : List Staged). IsReordering batches bs) (sym (filter-true kept)) r;
  over = All-from_Each (λ (batch : Staged). has_ended [] batch ≡ true → is_open moment batch ≡ false) kept (each-all (λ (batch : Staged). has_ended [] batch ≡ true → is_open moment batch ≡ false) (λ batch no. cc) kept);
}
