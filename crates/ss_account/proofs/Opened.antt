-- What is known where no collection and no row is bad, and where the first one is.
use Rattle.std.specs.Prelude.{◌≡◌, ℕ, ◌+◌, ◌≤◌, ◌<◌, ◌==◌, max, filter, Bool, true, false, not, ◌&&◌, ◌||◌, cond}
use Rattle.std.specs.Prelude.{nat_le, nat_lt, List, [], ◌∷◌, ◌++◌, length, take, drop, get_or, find, bytes_eq, is_none}
use Rattle.std.specs.Prelude.{Option, Some, None, IfSome, IsSomeAnd, All, AllPairs, option_map, refl}
use Rattle.std.specs.List.{list_any}
use Rattle.std.specs.Option.{option_map_or}
use Rattle.std.proofs.Common.{sym, ap, subst, ◌∙◌, arith, add-one, drop-cons}
use Rattle.std.proofs.lemmas.Bool.Decides.{nat_tests}
use Rattle.std.proofs.lemmas.List.Sums.{sum_by-append}
use Rattle.std.proofs.lemmas.List.{append_assoc, length-append, length-take-le, take-append-drop}
use Rattle.ss_text.specs.Time.{after, last_stamp}
use Rattle.ss_bso.specs.declared.rows.Row.{Row}
use Rattle.ss_bso.specs.declared.account.Plain.{Plain}
use Rattle.ss_bso.specs.declared.changes.Kept.{Kept}
use Rattle.ss_bso.specs.Account.{is_alive, is_at, is_open, time_of}
use Rattle.ss_bso.specs.declared.account.Staged.{Staged}
use Rattle.ss_bso.specs.Batches.{fit}
use Rattle.ss_bso.specs.Changes.{kept_of, latest, account_at_opening, plain_of}
use Rattle.ss_bso.proofs.Full.{within-both, within-bytes, within-number}
use Rattle.ss_bso.specs.Limits.{is_too_much, most_batch_bytes, most_batch_records, most_live_batches}
use Rattle.ss_bso.specs.Limits.{most_account_payload_bytes, most_rows_and_collections, part_bytes, row_bytes}
use Rattle.ss_bso.specs.Validity.{IsValid, IsValidBatch, SameAccount}
use Rattle.ss_account.specs.Keeping.{IsHeldBy}
use Rattle.ss_account.specs.Opening.{IsGood, first_bad, is_astray, is_bad_batch, is_bad_collection, is_bad_row}
use Rattle.ss_writes.specs.Parts.{or_else}
use Rattle.ss_bso.proofs.Lists.{Each-and, Each-imp, Each-from_All, Pairs-from_AllPairs, All-from_Each}
use Rattle.ss_bso.proofs.Lists.{AllPairs-from_Pairs}
use Rattle.ss_bso.specs.Lists.{Each, Pairs, Apart}
use Rattle.ss_laws.proofs.Written.{IsItem}
use Rattle.ss_query.proofs.Orders.{NamedApart}
use Rattle.ss_account.proofs.Ending.{OtherNumber, open_now}
use Rattle.ss_writes.proofs.Changing.{filter-absorb}
use Rattle.ss_laws.proofs.SameValid.{valid-same}
use Rattle.ss_text.proofs.Basics.{both_left, both_right, neither_left, neither_right, bytes_eq-sym, bytes_eq-flip}
use Rattle.ss_text.proofs.Basics.{take_push}
use Rattle.std.proofs.lemmas.Bool.{not-false, eqb-false, ltb-false, ne_eqb, le-ltb}
use Rattle.ss_bso.proofs.Places.{apart_flip}

none-map : (o : Option ℕ) → option_map (λ n. n + 1) o ≡ None → o ≡ None
none-map None e = refl
none-map (Some n) e = cc

each-none : {X : Type 0} (p : X → Bool) (xs : List X) → list_any p xs ≡ false → Each (λ (x : X). p x ≡ false) xs
each-none p [] e = tt
each-none p (x ∷ xs) e = (neither_left (p x) (list_any p xs) e, each-none p xs (neither_right (p x) (list_any p xs) e))

-- where none is bad: the first isn't, and none is behind it
record NoneBad {X : Type 0} (b : List X → X → Bool) (x : X) (xs : List X) : Type 0 where
  here : b [] x ≡ false
  later : first_bad (λ before. b (x ∷ before)) xs ≡ None

none-bad : {X : Type 0} (b : List X → X → Bool) (x : X) (xs : List X) → first_bad b (x ∷ xs) ≡ None → NoneBad b x xs
none-bad b x xs e =
    elim (b [] x) as (λ v. b [] x ≡ v → cond v (Some 1) (option_map (λ n. n + 1) (first_bad (λ before. b (x ∷ before)) xs)) ≡ None → NoneBad b x xs) [
      | true ↦ (λ _ h. cc)
      | false ↦ (λ is h. record { here = is; later = none-map (first_bad (λ before. b (x ∷ before)) xs) h })
    ] refl e

-- one more element behind those of which none is bad
pub none-more : {X : Type 0} (b : List X → X → Bool) (xs : List X) (x : X) → first_bad b xs ≡ None → b xs x ≡ false → first_bad b (xs ++ x ∷ []) ≡ None
none-more b [] x h e = ap (λ v. cond v (Some 1) None) e
none-more b (y ∷ ys) x h e =
    let n = none-bad b y ys h in
    ap (λ v. cond v (Some 1) (option_map (λ k. k + 1) (first_bad (λ before. b (y ∷ before)) (ys ++ x ∷ [])))) n.here
    ∙ ap (option_map (λ k. k + 1)) (none-more (λ before. b (y ∷ before)) ys x n.later e)

pub first-here : {X : Type 0} (b : List X → X → Bool) (xs : List X) (x : X) (ys : List X) → first_bad b xs ≡ None → b xs x ≡ true → first_bad b (xs ++ x ∷ ys) ≡ Some (length xs + 1)
first-here b [] x ys h e = ap (λ v. cond v (Some 1) (option_map (λ k. k + 1) (first_bad (λ before. b (x ∷ before)) ys))) e
first-here b (y ∷ zs) x ys h e =
    let n = none-bad b y zs h in
    ap (λ v. cond v (Some 1) (option_map (λ k. k + 1) (first_bad (λ before. b (y ∷ before)) (zs ++ x ∷ ys)))) n.here
    ∙ ap (option_map (λ k. k + 1)) (first-here (λ before. b (y ∷ before)) zs x ys n.later e)
    ∙ ap (λ k. Some k) (omega arith)

-- what each element has that isn't bad
each-good : {X : Type 0} (b : List X → X → Bool) (P : X → Type 0) → ((before : List X) (x : X) → b before x ≡ false → P x) → (xs : List X) → first_bad b xs ≡ None → Each P xs
each-good b P h [] e = tt
each-good b P h (x ∷ xs) e =
    let n = none-bad b x xs e in
    (h [] x n.here, each-good (λ before. b (x ∷ before)) P (λ before y f. h (x ∷ before) y f) xs n.later)

-- what each element has with those before it
pairs-good : {X : Type 0} (b : List X → X → Bool) (R : X → X → Type 0) → ((before : List X) (x : X) → b before x ≡ false → Each (λ (y : X). R y x) before) → (xs : List X) → first_bad b xs ≡ None → Pairs R xs
pairs-good b R h [] e = tt
pairs-good b R h (x ∷ xs) e =
    let n = none-bad b x xs e in (
      each-good (λ before. b (x ∷ before)) (R x) (λ before y f. (h (x ∷ before) y f).0) xs n.later,
      pairs-good (λ before. b (x ∷ before)) R (λ before y f. (h (x ∷ before) y f).1) xs n.later,
    )

-- what all of them have together
whole-good : {X : Type 0} (b : List X → X → Bool) (M : List X → Type 0) → M [] → ((before : List X) (x : X) → b before x ≡ false → M (before ++ x ∷ [])) → (xs : List X) → first_bad b xs ≡ None → M xs
whole-good b M none h [] e = none
whole-good {X} b M none h (x ∷ xs) e =
    let n = none-bad b x xs e in
    whole-good (λ before. b (x ∷ before)) (λ (ys : List X). M (x ∷ ys)) (h [] x n.here) (λ before y f. h (x ∷ before) y f) xs n.later

below : (n : ℕ) → nat_le most_rows_and_collections n ≡ false → n + 1 ≤ most_rows_and_collections
below n e = grind (arith, nat_tests)

not-astray : (modified : ℕ) (o : Option ℕ) → not (option_map_or (λ time. nat_le modified time) o false) ≡ false → IsSomeAnd o (λ time. modified ≤ time)
not-astray modified None e = cc
not-astray modified (Some time) e = grind (arith, nat_tests)

-- the latest of times
pub latest-above : (time : ℕ) (batches : List Staged) → time ≤ latest time batches
latest-above time [] = omega arith
latest-above time (batch ∷ batches) = let above : max time batch.begun ≤ latest (max time batch.begun) batches = latest-above (max time batch.begun) batches in omega (arith, above)

each-begun : (time : ℕ) (batches : List Staged) → Each (λ (batch : Staged). batch.begun ≤ latest time batches) batches
each-begun time [] = tt
each-begun time (batch ∷ batches) =
    let above : max time batch.begun ≤ latest (max time batch.begun) batches = latest-above (max time batch.begun) batches in
    (omega (arith, above), each-begun (max time batch.begun) batches)

latest-max : (time more : ℕ) (batches : List Staged) → latest (max time more) batches ≡ max (latest time batches) more
latest-max time more [] = refl
latest-max time more (batch ∷ batches) =
    let turned : max (max time more) batch.begun ≡ max (max time batch.begun) more = omega arith in
    ap (λ t. latest t batches) turned ∙ latest-max (max time batch.begun) more batches

-- the latest stays where those that began then stay
latest-kept : (p : Staged → Bool) (moment time : ℕ) (batches : List Staged) → ((batch : Staged) → batch.begun ≡ moment → p batch ≡ true) → latest time batches ≡ moment → latest time (filter p batches) ≡ moment
latest-kept p moment time [] keep e = e
latest-kept p moment time (batch ∷ batches) keep e =
    elim (p batch) as (λ v. p batch ≡ v → latest time (cond v (batch ∷ filter p batches) (filter p batches)) ≡ moment) [
      | true ↦ (λ _. latest-kept p moment (max time batch.begun) batches keep e)
      | false ↦ (λ is.
          let split : latest (max time batch.begun) batches ≡ max (latest time batches) batch.begun = latest-max time batch.begun batches in
          let other : batch.begun ≡ moment → ⊥ = λ same. let no : true ≡ false = sym (keep batch same) ∙ is in cc in
          latest-kept p moment time batches keep (left_one (latest time batches) batch.begun moment (sym split ∙ e) other))
    ] refl
  where
    left_one : (a b m : ℕ) → max a b ≡ m → (b ≡ m → ⊥) → a ≡ m
    left_one a b m e differ = elim (nat_le a b) as (λ v. nat_le a b ≡ v → a ≡ m) [
      | true ↦ (λ t. absurd (differ (upper t)))
      | false ↦ (λ t. lower t)
    ] refl
      where
        upper : nat_le a b ≡ true → b ≡ m
        upper t = let le : a ≤ b = grind (arith, nat_tests) in omega (arith, le, e)

        lower : nat_le a b ≡ false → a ≡ m
        lower t = let lt : b < a = grind (arith, nat_tests) in omega (arith, lt, e)

-- an account that was opened is opened as it is
pub opened-again : (kept : Kept) → account_at_opening (kept_of (account_at_opening kept)) ≡ account_at_opening kept
opened-again kept =
    let moment : ℕ = after (latest kept.store kept.batches) 0 in
    let same : moment ≡ latest kept.store kept.batches = omega arith in
    let latest_is : latest kept.store (filter (is_open moment) kept.batches) ≡ moment =
    latest-kept (is_open moment) moment kept.store kept.batches (λ batch e. open_now moment batch e) (sym same) in
    let moment_is : after (latest kept.store (filter (is_open moment) kept.batches)) 0 ≡ moment = ap (λ (m : ℕ). after m 0) latest_is ∙ omega arith in
    (λ i. record {
      rows = filter (is_alive (moment_is i)) (filter (is_alive moment) kept.rows);
      collections = kept.collections;
      store = kept.store;
      last_delete = kept.last_delete;
      moment = moment_is i;
      counter = kept.counter;
      batches = filter (is_open (moment_is i)) (filter (is_open moment) kept.batches);
    })
    ∙ (λ i. record {
      rows = filter-absorb (is_alive moment) (is_alive moment) kept.rows (λ row e. e) i;
      collections = kept.collections;
      store = kept.store;
      last_delete = kept.last_delete;
      moment = moment;
      counter = kept.counter;
      batches = filter-absorb (is_open moment) (is_open moment) kept.batches (λ batch e. e) i;
    })

-- what a batch has by itself that isn't bad
record IsFine (counter : ℕ) (batch : Staged) : Type 0 where
  given : 1 ≤ batch.number
  counted : batch.number ≤ counter
  records : length batch.parts ≤ most_batch_records
  bytes : part_bytes batch.parts ≤ most_batch_bytes

fine : (counter : ℕ) (batch : Staged) → ((batch.number == 0 || nat_lt counter batch.number) || not (fit batch.parts)) ≡ false → IsFine counter batch
fine counter batch e =
    let number : (batch.number == 0 || nat_lt counter batch.number) ≡ false = neither_left (batch.number == 0 || nat_lt counter batch.number) (not (fit batch.parts)) e in
    let given : (batch.number == 0) ≡ false = neither_left (batch.number == 0) (nat_lt counter batch.number) number in
    let counted : nat_lt counter batch.number ≡ false = neither_right (batch.number == 0) (nat_lt counter batch.number) number in
    let whole : fit batch.parts ≡ true = not-false (fit batch.parts) (neither_right (batch.number == 0 || nat_lt counter batch.number) (not (fit batch.parts)) e) in
    let records : nat_le (length batch.parts) most_batch_records ≡ true = both_left (nat_le (length batch.parts) most_batch_records) (nat_le (part_bytes batch.parts) most_batch_bytes) whole in
    let bytes : nat_le (part_bytes batch.parts) most_batch_bytes ≡ true = both_right (nat_le (length batch.parts) most_batch_records) (nat_le (part_bytes batch.parts) most_batch_bytes) whole in
    record { given = grind (arith, nat_tests); counted = grind (arith, nat_tests); records = grind (arith, nat_tests); bytes = grind (arith, nat_tests) }

few-more : (before : List Staged) (batch : Staged) → nat_le most_live_batches (length before) ≡ false → length (before ++ batch ∷ []) ≤ most_live_batches
few-more before batch e =
    let long : length (before ++ batch ∷ []) ≡ length before + 1 = length-append before (batch ∷ []) in
    let lt : length before < most_live_batches = grind (arith, nat_tests) in
    omega (arith, long, lt)

-- what the batches have together that aren't bad
pub few-good : (kept : Kept) → IsGood kept → length kept.batches ≤ most_live_batches
few-good kept good =
    whole-good (is_bad_batch kept.counter) (λ (all : List Staged). length all ≤ most_live_batches) (omega arith)
    (λ before batch e. few-more before batch
    (neither_left (nat_le most_live_batches (length before)) (list_any (λ (other : Staged). other.number == batch.number) before)
    (neither_left (nat_le most_live_batches (length before) || list_any (λ (other : Staged). other.number == batch.number) before) ((batch.number == 0 || nat_lt kept.counter batch.number) || not (fit batch.parts)) e))) kept.batches good.batches

pub numbers-good : (kept : Kept) → IsGood kept → AllPairs OtherNumber kept.batches
numbers-good kept good =
    AllPairs-from_Pairs OtherNumber kept.batches (pairs-good (is_bad_batch kept.counter) OtherNumber
    (λ before batch e. Each-imp (λ (other : Staged). (other.number == batch.number) ≡ false) (λ (other : Staged). OtherNumber other batch) (λ other f. eqb-false other.number batch.number f) before
    (each-none (λ (other : Staged). other.number == batch.number) before
    (neither_right (nat_le most_live_batches (length before)) (list_any (λ (other : Staged). other.number == batch.number) before)
    (neither_left (nat_le most_live_batches (length before) || list_any (λ (other : Staged). other.number == batch.number) before) ((batch.number == 0 || nat_lt kept.counter batch.number) || not (fit batch.parts)) e)))) kept.batches good.batches)

each-fine : (kept : Kept) → IsGood kept → Each (IsFine kept.counter) kept.batches
each-fine kept good =
    each-good (is_bad_batch kept.counter) (IsFine kept.counter)
    (λ before batch e. fine kept.counter batch
    (neither_right (nat_le most_live_batches (length before) || list_any (λ (other : Staged). other.number == batch.number) before) ((batch.number == 0 || nat_lt kept.counter batch.number) || not (fit batch.parts)) e)) kept.batches good.batches

pub given-good : (kept : Kept) → IsGood kept → All (λ batch. (1 ≤ batch.number) × (batch.number ≤ kept.counter)) kept.batches
given-good kept good =
    All-from_Each (λ (batch : Staged). (1 ≤ batch.number) × (batch.number ≤ kept.counter)) kept.batches
    (Each-imp (IsFine kept.counter) (λ (batch : Staged). (1 ≤ batch.number) × (batch.number ≤ kept.counter)) (λ batch h. (h.given, h.counted)) kept.batches (each-fine kept good))

pub valid-plain_of : (kept : Kept) → latest kept.store kept.batches ≤ last_stamp → IsGood kept → IsValid (plain_of kept)
valid-plain_of kept last good =
    let names : List (List ℕ × ℕ) → List ℕ × ℕ → Bool = is_bad_collection kept.store in
    let rows : List Row → Row → Bool = is_bad_row kept.collections in
    let named : (before : List (List ℕ × ℕ)) (entry : List ℕ × ℕ) → Bool = λ before entry. list_any (λ (other : List ℕ × ℕ). bytes_eq other.0 entry.0) before in
    let few : length kept.collections ≤ most_rows_and_collections =
    whole-good names (λ (times : List (List ℕ × ℕ)). length times ≤ most_rows_and_collections) (omega arith)
    (λ before entry e.
    let room = below (length before) (neither_right (nat_lt kept.store entry.1) (nat_le most_rows_and_collections (length before)) (neither_right (named before entry) (nat_lt kept.store entry.1 || nat_le most_rows_and_collections (length before)) e)) in
    omega (arith, length-append before (entry ∷ []))) kept.collections good.collections in
    let full : (before : List Row) (row : Row) → rows before row ≡ false → is_too_much (before ++ row ∷ []) (length kept.collections) ≡ false =
    λ before row e. neither_right (is_astray kept.collections row) (is_too_much (before ++ row ∷ []) (length kept.collections)) (neither_right (list_any (is_at row.collection row.id) before) (is_astray kept.collections row || is_too_much (before ++ row ∷ []) (length kept.collections)) e) in
    record {
      places = AllPairs-from_Pairs Apart kept.rows (pairs-good rows Apart
          (λ before row e. Each-imp (λ (other : Row). is_at row.collection row.id other ≡ false) (λ (other : Row). Apart other row) (λ other f. apart_flip row other f) before
          (each-none (is_at row.collection row.id) before (neither_left (list_any (is_at row.collection row.id) before) (is_astray kept.collections row || is_too_much (before ++ row ∷ []) (length kept.collections)) e))) kept.rows good.rows);
      names = AllPairs-from_Pairs NamedApart kept.collections (pairs-good names NamedApart
          (λ before entry e. Each-imp (λ (other : List ℕ × ℕ). bytes_eq other.0 entry.0 ≡ false) (λ (other : List ℕ × ℕ). NamedApart other entry) (λ other f. bytes_eq-flip other.0 entry.0 f) before
          (each-none (λ (other : List ℕ × ℕ). bytes_eq other.0 entry.0) before (neither_left (named before entry) (nat_lt kept.store entry.1 || nat_le most_rows_and_collections (length before)) e))) kept.collections good.collections);
      limits = record {
        within = within-both kept.rows (length kept.collections)
            (whole-good rows (λ (all : List Row). row_bytes all ≤ most_account_payload_bytes) (omega arith)
            (λ before row e. within-bytes (before ++ row ∷ []) (length kept.collections) (full before row e)) kept.rows good.rows)
            (whole-good rows (λ (all : List Row). length all + length kept.collections ≤ most_rows_and_collections) (omega (arith, few))
            (λ before row e. within-number (before ++ row ∷ []) (length kept.collections) (full before row e)) kept.rows good.rows);
      };
      items = All-from_Each (IsItem kept.collections) kept.rows (each-good rows (IsItem kept.collections)
          (λ before row e. not-astray row.modified (time_of row.collection kept.collections)
          (neither_left (is_astray kept.collections row) (is_too_much (before ++ row ∷ []) (length kept.collections)) (neither_right (list_any (is_at row.collection row.id) before) (is_astray kept.collections row || is_too_much (before ++ row ∷ []) (length kept.collections)) e))) kept.rows good.rows);
      times = All-from_Each (λ (entry : List ℕ × ℕ). entry.1 ≤ kept.store) kept.collections (each-good names (λ (entry : List ℕ × ℕ). entry.1 ≤ kept.store)
          (λ before entry e. ltb-false kept.store entry.1 (neither_left (nat_lt kept.store entry.1) (nat_le most_rows_and_collections (length before)) (neither_right (named before entry) (nat_lt kept.store entry.1 || nat_le most_rows_and_collections (length before)) e))) kept.collections good.collections);
      store = latest-above kept.store kept.batches;
      moment = last;
      few = few-good kept good;
      numbers = numbers-good kept good;
      batches = All-from_Each (IsValidBatch (plain_of kept)) kept.batches
          (Each-imp (λ (batch : Staged). IsFine kept.counter batch × (batch.begun ≤ latest kept.store kept.batches)) (IsValidBatch (plain_of kept))
          (λ batch h. record { given = h.0.given; counted = h.0.counted; begun = h.1; records = h.0.records; bytes = h.0.bytes }) kept.batches
          (Each-and (IsFine kept.counter) (λ (batch : Staged). batch.begun ≤ latest kept.store kept.batches) kept.batches
          (each-fine kept good)
          (each-begun kept.store kept.batches)));
    }

-- and back: none is bad of which none is where it stands
none-bad_at : {X : Type 0} (b : List X → X → Bool) (xs : List X) → ((before : List X) (x : X) (later : List X) → xs ≡ before ++ x ∷ later → b before x ≡ false) → first_bad b xs ≡ None
none-bad_at b [] h = refl
none-bad_at b (x ∷ xs) h =
    ap (λ v. cond v (Some 1) (option_map (λ n. n + 1) (first_bad (λ before. b (x ∷ before)) xs))) (h [] x xs refl)
    ∙ ap (option_map (λ n. n + 1)) (none-bad_at (λ before. b (x ∷ before)) xs (λ before y later e. h (x ∷ before) y later (ap (λ rest. x ∷ rest) e)))

each-at : {X : Type 0} (P : X → Type 0) (before : List X) (x : X) (later : List X) → Each P (before ++ x ∷ later) → P x
each-at P [] x later e = e.0
each-at P (y ∷ ys) x later e = each-at P ys x later e.1

pairs-at : {X : Type 0} (R : X → X → Type 0) (before : List X) (x : X) (later : List X) → Pairs R (before ++ x ∷ later) → Each (λ (y : X). R y x) before
pairs-at R [] x later e = tt
pairs-at R (y ∷ ys) x later e = (each-at (R y) ys x later e.0, pairs-at R ys x later e.1)

none-any : {X : Type 0} (p : X → Bool) (xs : List X) → Each (λ (x : X). p x ≡ false) xs → list_any p xs ≡ false
none-any p [] e = refl
none-any p (x ∷ xs) e = ap (λ v. v || list_any p xs) e.0 ∙ none-any p xs e.1

bytes-at : (before : List Row) (row : Row) (later : List Row) → row_bytes (before ++ row ∷ []) ≤ row_bytes (before ++ row ∷ later)
bytes-at before row later =
    let whole : row_bytes (before ++ row ∷ later) ≡ row_bytes (before ++ row ∷ []) + row_bytes later =
    ap row_bytes (sym (append_assoc before (row ∷ []) later)) ∙ sum_by-append (λ (one : Row). length one.payload) (before ++ row ∷ []) later in
    omega (arith, whole)

astray-not : (modified : ℕ) (o : Option ℕ) → IsSomeAnd o (λ time. modified ≤ time) → not (option_map_or (λ time. nat_le modified time) o false) ≡ false
astray-not modified None h = absurd h
astray-not modified (Some time) h = let le : modified ≤ time = h in grind (arith, nat_tests)

few_before : (number : ℕ) → number + 1 ≤ most_rows_and_collections → nat_le most_rows_and_collections number ≡ false
few_before number le = grind (arith, nat_tests)

-- and a batch that is fine by itself isn't bad by itself
and_fine : (counter : ℕ) (batch : Staged) → IsFine counter batch → ((batch.number == 0 || nat_lt counter batch.number) || not (fit batch.parts)) ≡ false
and_fine counter batch h =
    let given : 1 ≤ batch.number = h.given in
    let counted : batch.number ≤ counter = h.counted in
    let records : length batch.parts ≤ most_batch_records = h.records in
    let bytes : part_bytes batch.parts ≤ most_batch_bytes = h.bytes in
    let zero : (batch.number == 0) ≡ false = grind (arith, nat_tests) in
    let low : nat_lt counter batch.number ≡ false = grind (arith, nat_tests) in
    let few : nat_le (length batch.parts) most_batch_records ≡ true = grind (arith, nat_tests) in
    let light : nat_le (part_bytes batch.parts) most_batch_bytes ≡ true = grind (arith, nat_tests) in
    λ i. (zero i || low i) || not (few i && light i)

-- what is kept of a valid account isn't bad
pub good-kept : (kept : Kept) (account : Plain) → account.rows ≡ kept.rows → account.collections ≡ kept.collections → account.batches ≡ kept.batches → account.store ≡ kept.store → account.counter ≡ kept.counter → IsValid account → IsGood kept
good-kept kept account rows_are times_are batches_are store_is counter_is valid =
    let places : Pairs Apart kept.rows = subst (λ rs. Pairs Apart rs) rows_are (Pairs-from_AllPairs Apart account.rows valid.places) in
    let names : Pairs NamedApart kept.collections = subst (λ ts. Pairs NamedApart ts) times_are (Pairs-from_AllPairs NamedApart account.collections valid.names) in
    let items : Each (IsItem kept.collections) kept.rows =
    subst (λ ts. Each (IsItem ts) kept.rows) times_are (subst (λ rs. Each (IsItem account.collections) rs) rows_are (Each-from_All (IsItem account.collections) account.rows valid.items)) in
    let times : Each (λ (entry : List ℕ × ℕ). entry.1 ≤ kept.store) kept.collections =
    subst (λ s. Each (λ (entry : List ℕ × ℕ). entry.1 ≤ s) kept.collections) store_is
    (subst (λ ts. Each (λ (entry : List ℕ × ℕ). entry.1 ≤ account.store) ts) times_are (Each-from_All (λ (entry : List ℕ × ℕ). entry.1 ≤ account.store) account.collections valid.times)) in
    let within : is_too_much kept.rows (length kept.collections) ≡ false =
    subst (λ ts. is_too_much kept.rows (length ts) ≡ false) times_are (subst (λ rs. is_too_much rs (length account.collections) ≡ false) rows_are valid.limits.within) in
    let bytes : row_bytes kept.rows ≤ most_account_payload_bytes = within-bytes kept.rows (length kept.collections) within in
    let number : length kept.rows + length kept.collections ≤ most_rows_and_collections = within-number kept.rows (length kept.collections) within in
    let numbers : Pairs OtherNumber kept.batches = subst (λ bs. Pairs OtherNumber bs) batches_are (Pairs-from_AllPairs OtherNumber account.batches valid.numbers) in
    let few : length kept.batches ≤ most_live_batches = subst (λ bs. length bs ≤ most_live_batches) batches_are valid.few in
    let batches : Each (IsFine kept.counter) kept.batches =
    subst (λ bs. Each (IsFine kept.counter) bs) batches_are
    (Each-imp (IsValidBatch account) (IsFine kept.counter)
    (λ batch h. record { given = h.given; counted = subst (λ n. batch.number ≤ n) counter_is h.counted; records = h.records; bytes = h.bytes }) account.batches (Each-from_All (IsValidBatch account) account.batches valid.batches)) in
    record {
      collections = none-bad_at (is_bad_collection kept.store) kept.collections (λ before entry later e. good-time kept names times number before entry later e);
      rows = none-bad_at (is_bad_row kept.collections) kept.rows (λ before row later e. good-row kept places items bytes number before row later e);
      batches = none-bad_at (is_bad_batch kept.counter) kept.batches (λ before batch later e. good-batch kept numbers few batches before batch later e);
    }
  where
    good-time : (kept : Kept) → Pairs NamedApart kept.collections → Each (λ (entry : List ℕ × ℕ). entry.1 ≤ kept.store) kept.collections → length kept.rows + length kept.collections ≤ most_rows_and_collections
        → (before : List (List ℕ × ℕ)) (entry : List ℕ × ℕ) (later : List (List ℕ × ℕ)) → kept.collections ≡ before ++ entry ∷ later → is_bad_collection kept.store before entry ≡ false
    good-time kept names times number before entry later e =
        let alone : list_any (λ (other : List ℕ × ℕ). bytes_eq other.0 entry.0) before ≡ false =
        none-any (λ (other : List ℕ × ℕ). bytes_eq other.0 entry.0) before (Each-imp (λ (other : List ℕ × ℕ). NamedApart other entry) (λ (other : List ℕ × ℕ). bytes_eq other.0 entry.0 ≡ false)
        (λ other f. bytes_eq-flip entry.0 other.0 f) before (pairs-at NamedApart before entry later (subst (λ ts. Pairs NamedApart ts) e names))) in
        let early : nat_lt kept.store entry.1 ≡ false =
        le-ltb kept.store entry.1 (each-at (λ (one : List ℕ × ℕ). one.1 ≤ kept.store) before entry later (subst (λ ts. Each (λ (one : List ℕ × ℕ). one.1 ≤ kept.store) ts) e times)) in
        let long : length kept.collections ≡ length before + length (entry ∷ later) = ap length e ∙ length-append before (entry ∷ later) in
        let few : nat_le most_rows_and_collections (length before) ≡ false = few_before (length before) (omega (arith, long, number)) in
        λ i. alone i || (early i || few i)

    good-row : (kept : Kept) → Pairs Apart kept.rows → Each (IsItem kept.collections) kept.rows → row_bytes kept.rows ≤ most_account_payload_bytes → length kept.rows + length kept.collections ≤ most_rows_and_collections
        → (before : List Row) (row : Row) (later : List Row) → kept.rows ≡ before ++ row ∷ later → is_bad_row kept.collections before row ≡ false
    good-row kept places items bytes number before row later e =
        let alone : list_any (is_at row.collection row.id) before ≡ false =
        none-any (is_at row.collection row.id) before (Each-imp (λ (other : Row). Apart other row) (λ (other : Row). is_at row.collection row.id other ≡ false)
        (λ other f. apart_flip other row f) before (pairs-at Apart before row later (subst (λ rs. Pairs Apart rs) e places))) in
        let listed : is_astray kept.collections row ≡ false =
        astray-not row.modified (time_of row.collection kept.collections) (each-at (IsItem kept.collections) before row later (subst (λ rs. Each (IsItem kept.collections) rs) e items)) in
        let size : row_bytes kept.rows ≡ row_bytes (before ++ row ∷ later) = ap row_bytes e in
        let part : row_bytes (before ++ row ∷ []) ≤ row_bytes (before ++ row ∷ later) = bytes-at before row later in
        let long : length kept.rows ≡ length before + length (row ∷ later) = ap length e ∙ length-append before (row ∷ later) in
        let short : length (before ++ row ∷ []) ≡ length before + length (row ∷ []) = length-append before (row ∷ []) in
        let room : is_too_much (before ++ row ∷ []) (length kept.collections) ≡ false =
        within-both (before ++ row ∷ []) (length kept.collections) (omega (arith, size, part, bytes)) (omega (arith, long, short, number)) in
        λ i. alone i || (listed i || room i)

    good-batch : (kept : Kept) → Pairs OtherNumber kept.batches → length kept.batches ≤ most_live_batches → Each (IsFine kept.counter) kept.batches
        → (before : List Staged) (batch : Staged) (later : List Staged) → kept.batches ≡ before ++ batch ∷ later → is_bad_batch kept.counter before batch ≡ false
    good-batch kept numbers few batches before batch later e =
        let alone : list_any (λ (other : Staged). other.number == batch.number) before ≡ false =
        none-any (λ (other : Staged). other.number == batch.number) before (Each-imp (λ (other : Staged). OtherNumber other batch) (λ (other : Staged). (other.number == batch.number) ≡ false)
        (λ other f. ne_eqb other.number batch.number f) before (pairs-at OtherNumber before batch later (subst (λ bs. Pairs OtherNumber bs) e numbers))) in
        let long : length kept.batches ≡ length before + length (batch ∷ later) = ap length e ∙ length-append before (batch ∷ later) in
        let short : nat_le most_live_batches (length before) ≡ false = let lt : length before < most_live_batches = omega (arith, long, few) in grind (arith, nat_tests) in
        let mine : ((batch.number == 0 || nat_lt kept.counter batch.number) || not (fit batch.parts)) ≡ false = and_fine kept.counter batch (each-at (IsFine kept.counter) before batch later (subst (λ bs. Each (IsFine kept.counter) bs) e batches)) in
        λ i. (short i || alone i) || mine i

-- what is just a valid account can be opened again
pub good-held : (told : Option Kept) (account : Plain) → IsHeldBy told account → IsValid account → IfSome told IsGood
good-held None account h valid = tt
good-held (Some kept) account h valid =
    let other : Plain = record account { rows = kept.rows; collections = kept.collections; batches = kept.batches } in
    let same : SameAccount account other =
    record { rows = h.rows; collections = h.collections; batches = h.batches; store = refl; last_delete = refl; moment = refl; counter = refl } in
    good-kept kept other refl refl refl h.store h.counter (valid-same account other valid same)

-- whether a name is there, by its time
pub any-time : (name : List ℕ) (times : List (List ℕ × ℕ)) → list_any (λ (other : List ℕ × ℕ). bytes_eq other.0 name) times ≡ not (is_none (time_of name times))
any-time name [] = refl
any-time name (entry ∷ times) =
    elim (bytes_eq entry.0 name) as (λ v. (v || list_any (λ (other : List ℕ × ℕ). bytes_eq other.0 name) times) ≡ not (is_none (option_map (λ (e : List ℕ × ℕ). e.1) (cond v (Some entry) (find (λ e. bytes_eq e.0 name) times))))) [
      | true ↦ refl
      | false ↦ any-time name times
    ]

-- the time of a name with one more collection behind the others
pub time-more : (name : List ℕ) (times : List (List ℕ × ℕ)) (entry : List ℕ × ℕ) → time_of name (times ++ entry ∷ []) ≡ cond (bytes_eq entry.0 name) (or_else (time_of name times) (Some entry.1)) (time_of name times)
time-more name [] entry = elim (bytes_eq entry.0 name) as (λ v. option_map (λ (e : List ℕ × ℕ). e.1) (cond v (Some entry) None) ≡ cond v (Some entry.1) None) [ true ↦ refl | false ↦ refl ]
time-more name (first ∷ times) entry =
    elim (bytes_eq first.0 name) as (λ v. option_map (λ (e : List ℕ × ℕ). e.1) (cond v (Some first) (find (λ e. bytes_eq e.0 name) (times ++ entry ∷ [])))
    ≡ cond (bytes_eq entry.0 name) (or_else (option_map (λ (e : List ℕ × ℕ). e.1) (cond v (Some first) (find (λ e. bytes_eq e.0 name) times))) (Some entry.1)) (option_map (λ (e : List ℕ × ℕ). e.1) (cond v (Some first) (find (λ e. bytes_eq e.0 name) times)))) [
      | true ↦ same (bytes_eq entry.0 name)
      | false ↦ time-more name times entry
    ]
  where
    same : (b : Bool) → Some first.1 ≡ cond b (Some first.1) (Some first.1)
    same true = refl
    same false = refl

-- a list around the element at a place
around : {X : Type 0} (xs : List X) (k : ℕ) (x : X) → k < length xs → x ≡ get_or xs k x → xs ≡ take k xs ++ x ∷ drop (k + 1) xs
around xs k x lt item =
    sym (take-append-drop k xs) ∙ ap (λ rest. take k xs ++ rest) (drop-cons xs k x lt ∙ (λ i. sym item i ∷ drop (sym (add-one k) i) xs))

pub none-at : {X : Type 0} (b : List X → X → Bool) (xs : List X) (k : ℕ) (x : X) → k < length xs → x ≡ get_or xs k x → first_bad b (take k xs) ≡ None → b (take k xs) x ≡ false → first_bad b (take (k + 1) xs) ≡ None
none-at b xs k x lt item none fine = ap (first_bad b) (take_push xs k x lt item) ∙ none-more b (take k xs) x none fine

pub bad-at : {X : Type 0} (b : List X → X → Bool) (xs : List X) (k n : ℕ) (x : X) → k < length xs → x ≡ get_or xs k x → first_bad b (take k xs) ≡ None → b (take k xs) x ≡ true → n ≡ k + 1 → first_bad b xs ≡ Some n
bad-at {X} b xs k n x lt item none bad is =
    let small : k ≤ length xs = omega arith in
    ap (first_bad b) (around xs k x lt item) ∙ first-here b (take k xs) x (drop (k + 1) xs) none bad ∙ ap (λ (m : ℕ). Some (m + 1)) (length-take-le k xs small) ∙ ap (λ (m : ℕ). Some m) (sym is)

more_than : (k n : ℕ) → n ≡ k + 1 → nat_lt most_rows_and_collections n ≡ nat_le most_rows_and_collections k
more_than k n e = grind (arith, nat_tests)

-- whether the collection at a place is bad, by its name's time among those before it
pub time_bad : (store last : ℕ) (times : List (List ℕ × ℕ)) (k n : ℕ) (entry : List ℕ × ℕ) (found : Option ℕ) (first bad : Bool) → k < length times → n ≡ k + 1 → last ≡ store → first ≡ is_none found → found ≡ time_of entry.0 (take k times)
    → bad ≡ (not first || (nat_lt last entry.1 || nat_lt most_rows_and_collections n)) → bad ≡ is_bad_collection store (take k times) entry
time_bad store last times k n entry found first bad lt is same named at e =
    let small : k ≤ length times = omega arith in
    let doubled : not first ≡ list_any (λ (other : List ℕ × ℕ). bytes_eq other.0 entry.0) (take k times) = ap not (named ∙ ap is_none at) ∙ sym (any-time entry.0 (take k times)) in
    let late : nat_lt last entry.1 ≡ nat_lt store entry.1 = ap (λ (s : ℕ). nat_lt s entry.1) same in
    let many : nat_lt most_rows_and_collections n ≡ nat_le most_rows_and_collections (length (take k times)) =
    more_than k n is ∙ ap (λ (m : ℕ). nat_le most_rows_and_collections m) (sym (length-take-le k times small)) in
    e ∙ (λ i. doubled i || (late i || many i))

-- places in either order
place-turned : (collection id : List ℕ) (rows : List Row) → list_any (λ (row : Row). bytes_eq collection row.collection && bytes_eq id row.id) rows ≡ list_any (is_at collection id) rows
place-turned collection id [] = refl
place-turned collection id (row ∷ rows) = λ i. (bytes_eq-sym collection row.collection i && bytes_eq-sym id row.id i) || place-turned collection id rows i

any-last : {X : Type 0} (p : X → Bool) (xs : List X) (x : X) → list_any p (xs ++ x ∷ []) ≡ (p x || list_any p xs)
any-last p [] x = refl
any-last p (y ∷ ys) x = ap (λ v. p y || v) (any-last p ys x) ∙ turned (p y) (p x) (list_any p ys)
  where
    turned : (a b d : Bool) → (a || (b || d)) ≡ (b || (a || d))
    turned true true d = refl
    turned true false d = refl
    turned false b d = refl

-- the places of one row more
pub places-more : (rows : List Row) (k : ℕ) (row : Row) (collection id : List ℕ) (old new : Bool) → k < length rows → row ≡ get_or rows k row
    → old ≡ list_any (λ (r : Row). bytes_eq collection r.collection && bytes_eq id r.id) (take k rows) → new ≡ ((bytes_eq collection row.collection && bytes_eq id row.id) || old)
    → new ≡ list_any (λ (r : Row). bytes_eq collection r.collection && bytes_eq id r.id) (take (k + 1) rows)
places-more rows k row collection id old new lt item before e =
    e ∙ ap (λ v. (bytes_eq collection row.collection && bytes_eq id row.id) || v) before
    ∙ sym (ap (list_any (λ (r : Row). bytes_eq collection r.collection && bytes_eq id r.id)) (take_push rows k row lt item) ∙ any-last (λ (r : Row). bytes_eq collection r.collection && bytes_eq id r.id) (take k rows) row)

-- whether the row at a place is bad, by the places of those before it
pub row_bad : (collections : List (List ℕ × ℕ)) (rows : List Row) (k : ℕ) (row : Row) (found first bad : Bool) (time : Option ℕ) (number : ℕ) → number ≡ length collections → k < length rows → row ≡ get_or rows k row
    → first ≡ not found → found ≡ list_any (λ (r : Row). bytes_eq row.collection r.collection && bytes_eq row.id r.id) (take k rows) → time ≡ time_of row.collection collections
    → bad ≡ (not first || (not (option_map_or (λ t. nat_le row.modified t) time false) || is_too_much (take (k + 1) rows) number)) → bad ≡ is_bad_row collections (take k rows) row
row_bad collections rows k row found first bad time number counted lt item named at is e =
    let doubled : not first ≡ list_any (is_at row.collection row.id) (take k rows) = ap not named ∙ not-not found ∙ at ∙ place-turned row.collection row.id (take k rows) in
    let astray : not (option_map_or (λ t. nat_le row.modified t) time false) ≡ is_astray collections row = ap (λ (o : Option ℕ). not (option_map_or (λ t. nat_le row.modified t) o false)) is in
    e ∙ (λ i. doubled i || (astray i || is_too_much (take_push rows k row lt item i) (counted i)))
  where
    not-not : (b : Bool) → not (not b) ≡ b
    not-not true = refl
    not-not false = refl
