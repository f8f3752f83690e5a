-- A valid account stays valid.
use Rattle.std.specs.Prelude.{◌≡◌, ◌≢◌, ℕ, ◌<◌, ◌≤◌, ◌+◌, Bool, true, false, not, ◌&&◌, ◌||◌, cond, nat_le, ◌==◌, List}
use Rattle.std.specs.Prelude.{[], ◌∷◌, ◌++◌, length, map, filter, find, Option, Some, None, is_none, is_some, IsFalse}
use Rattle.std.specs.Prelude.{IsSomeAnd, bytes_eq, refl}
use Rattle.std.specs.Option.{option_map_or}
use Rattle.std.proofs.Common.{subst, sym, ap, ◌∙◌, arith}
use Rattle.std.proofs.lemmas.Bool.Decides.{nat_tests}
use Rattle.std.proofs.lemmas.Bool.{leb-true, not-false, not-true}
use Rattle.std.proofs.lemmas.List.{length-append, length-map}
use Rattle.ss_text.specs.Time.{after, last_stamp}
use Rattle.ss_text.specs.declared.stamps.Cond.{Cond}
use Rattle.ss_bso.specs.declared.rows.Row.{Row}
use Rattle.ss_bso.specs.declared.parts.Part.{Part}
use Rattle.ss_bso.specs.declared.account.Plain.{Plain}
use Rattle.ss_bso.specs.declared.account.Staged.{Staged}
use Rattle.ss_bso.specs.Account.{tick, is_alive, is_open, time_of}
use Rattle.ss_bso.specs.Limits.{most_live_batches, most_batch_bytes, most_batch_records, most_rows_and_collections}
use Rattle.ss_bso.specs.Limits.{most_account_payload_bytes, row_bytes, part_bytes}
use Rattle.ss_bso.specs.Validity.{IsValid, IsValidBatch, IsWithinLimits}
use Rattle.ss_bso.proofs.Full.{within-both, within-bytes, within-number}
use Rattle.ss_bso.specs.Write.{account_after_write, write, rows_without, rows_written, times_without, times_with}
use Rattle.ss_bso.specs.Write.{is_among}
use Rattle.ss_query.specs.declared.requests.Request.{Request}
use Rattle.ss_query.specs.declared.requests.Request.TheVariants.{Info, DeleteAll, List as ListOf, Post}
use Rattle.ss_query.specs.declared.requests.Request.TheVariants.{DeleteCollection, DeleteIds, Get, Put, Delete}
use Rattle.ss_query.specs.declared.requests.Mode.TheVariants.{Plain as PlainPost, Begin, Append, Commit}
use Rattle.ss_bso.specs.Batches.{fit}
use Rattle.ss_query.specs.Refused.{Refusal, batch_of, staged_parts}
use Rattle.ss_bso.specs.Batches.{grown}
use Rattle.ss_query.specs.Effect.{stamp_in, effect, is_over, is_empty, write_some, parts_to_put}
use Rattle.ss_query.specs.Api.{refusal, outcome, api}
use Rattle.ss_query.specs.Fit.{IsFitRequest}
use Rattle.ss_laws.proofs.Shown.{Shown, shown}
use Rattle.ss_laws.proofs.Commit.{Passes, passes}
use Rattle.ss_laws.proofs.CommitLaw.{clock_from, over_from}
use Rattle.ss_bso.proofs.Lists.{Each-imp, Each-and, Each-map, Each-filter, Each-append, Each-passes, Each-find}
use Rattle.ss_bso.proofs.Lists.{Each-from_All, All-from_Each, Pairs-filter, Pairs-append, Pairs-map}
use Rattle.ss_bso.proofs.Lists.{Pairs-from_AllPairs, AllPairs-from_Pairs, find-passes, sum_by-filter_le}
use Rattle.ss_bso.specs.Lists.{Each, Pairs, Apart}
use Rattle.ss_laws.proofs.Times.{names_with, time_of-without}
use Rattle.ss_laws.proofs.Written.{IsItem, item_kept, items-written, places-written}
use Rattle.ss_text.proofs.Basics.{both_left, both_right, length-filter_le}

abbrev NamedApart : (List ℕ × ℕ) → (List ℕ × ℕ) → Type 0
NamedApart entry other = IsFalse (bytes_eq other.0 entry.0)

abbrev OtherNumber : Staged → Staged → Type 0
OtherNumber batch other = batch.number ≢ other.number

-- what validity says of what an account shows
pub record Stored (s : Shown) : Type 0 where
  pub places : Pairs Apart s.rows
  pub names : Pairs NamedApart s.collections
  pub bytes : row_bytes s.rows ≤ most_account_payload_bytes
  pub number : length s.rows + length s.collections ≤ most_rows_and_collections
  pub items : Each (IsItem s.collections) s.rows
  pub times : Each (λ (entry : List ℕ × ℕ). entry.1 ≤ s.store) s.collections
  pub store : s.store ≤ s.moment
  pub moment : s.moment ≤ last_stamp

-- what validity says of a batch, and of the batches
pub record InBatch (moment counter : ℕ) (batch : Staged) : Type 0 where
  pub given : 1 ≤ batch.number
  pub counted : batch.number ≤ counter
  pub begun : batch.begun ≤ moment
  pub records : length batch.parts ≤ most_batch_records
  pub bytes : part_bytes batch.parts ≤ most_batch_bytes

pub record Batched (moment counter : ℕ) (batches : List Staged) : Type 0 where
  pub few : length batches ≤ most_live_batches
  pub numbers : Pairs OtherNumber batches
  pub each : Each (InBatch moment counter) batches

stored_from : (account : Plain) → IsValid account → Stored (shown account)
stored_from account v = record {
  places = Pairs-from_AllPairs Apart account.rows v.places;
  names = Pairs-from_AllPairs NamedApart account.collections v.names;
  bytes = within-bytes account.rows (length account.collections) v.limits.within;
  number = within-number account.rows (length account.collections) v.limits.within;
  items = Each-from_All (IsItem account.collections) account.rows v.items;
  times = Each-from_All (λ (entry : List ℕ × ℕ). entry.1 ≤ account.store) account.collections v.times;
  store = v.store;
  moment = v.moment;
}

batched_from : (account : Plain) → IsValid account → Batched account.moment account.counter account.batches
batched_from account v = record {
  few = v.few;
  numbers = Pairs-from_AllPairs OtherNumber account.batches v.numbers;
  each = Each-imp (IsValidBatch account) (InBatch account.moment account.counter)
      (λ batch h. record { given = h.given; counted = h.counted; begun = h.begun; records = h.records; bytes = h.bytes })
      account.batches (Each-from_All (IsValidBatch account) account.batches v.batches);
}

valid_from : (account : Plain) → Stored (shown account) → Batched account.moment account.counter account.batches → IsValid account
valid_from account s b = record {
  places = AllPairs-from_Pairs Apart account.rows s.places;
  names = AllPairs-from_Pairs NamedApart account.collections s.names;
  limits = record { within = within-both account.rows (length account.collections) s.bytes s.number };
  items = All-from_Each (IsItem account.collections) account.rows s.items;
  times = All-from_Each (λ (entry : List ℕ × ℕ). entry.1 ≤ account.store) account.collections s.times;
  store = s.store;
  moment = s.moment;
  few = b.few;
  numbers = AllPairs-from_Pairs OtherNumber account.batches b.numbers;
  batches = All-from_Each (IsValidBatch account) account.batches
      (Each-imp (InBatch account.moment account.counter) (IsValidBatch account)
      (λ batch h. record { given = h.given; counted = h.counted; begun = h.begun; records = h.records; bytes = h.bytes }) account.batches b.each);
}

-- batches under a later moment, fewer of them, one more, and one with more parts
batched-later : (moment later counter : ℕ) (batches : List Staged) → moment ≤ later → Batched moment counter batches → Batched later counter batches
batched-later moment later counter batches le b = record {
  few = b.few;
  numbers = b.numbers;
  each = Each-imp (InBatch moment counter) (InBatch later counter)
      (λ batch h. record { given = h.given; counted = h.counted; begun = omega (arith, h.begun); records = h.records; bytes = h.bytes }) batches b.each;
}

batched-filter : (moment counter : ℕ) (p : Staged → Bool) (batches : List Staged) → Batched moment counter batches → Batched moment counter (filter p batches)
batched-filter moment counter p batches b = record {
  few = omega (arith, length-filter_le p batches, b.few);
  numbers = Pairs-filter OtherNumber p batches b.numbers;
  each = Each-filter (InBatch moment counter) p batches b.each;
}

batched-begin : (moment counter : ℕ) (batches : List Staged) (new : Staged) → length batches < most_live_batches → new.number ≡ counter + 1 → new.begun ≤ moment → length new.parts ≤ most_batch_records → part_bytes new.parts ≤ most_batch_bytes
    → Batched moment counter batches → Batched moment (counter + 1) (batches ++ new ∷ [])
batched-begin moment counter batches new room is begun records bytes b = record {
  few = omega (arith, length-append batches (new ∷ []));
  numbers = Pairs-append OtherNumber batches (new ∷ []) b.numbers (tt, tt)
      (Each-imp (InBatch moment counter) (λ (batch : Staged). Each (OtherNumber batch) (new ∷ []))
      (λ batch h. ((λ e. let le : batch.number ≤ counter = h.counted in absurd (omega arith)), tt)) batches b.each);
  each = Each-append (InBatch moment (counter + 1)) batches (new ∷ [])
      (Each-imp (InBatch moment counter) (InBatch moment (counter + 1))
      (λ batch h. record { given = h.given; counted = omega (arith, h.counted); begun = h.begun; records = h.records; bytes = h.bytes }) batches b.each)
      (record { given = omega arith; counted = omega arith; begun = begun; records = records; bytes = bytes }, tt);
}

-- the batch that a number and a collection find is the only one of its number
only_one : (q : Staged → Bool) (batches : List Staged) (found : Staged) (number : ℕ) → find q batches ≡ Some found → found.number ≡ number → Pairs OtherNumber batches
    → Each (λ (batch : Staged). batch.number ≡ number → batch.parts ≡ found.parts) batches
only_one q [] found number e is p = tt
only_one q (batch ∷ batches) found number e is p =
    elim (q batch) as (λ v. cond v (Some batch) (find q batches) ≡ Some found → Each (λ (one : Staged). one.number ≡ number → one.parts ≡ found.parts) (batch ∷ batches)) [
      | true ↦ (λ h.
          let same : batch ≡ found = cc in
          let numbered : batch.number ≡ number = ap (λ (one : Staged). one.number) same ∙ is in (
            (λ _. ap (λ (one : Staged). one.parts) same),
            Each-imp (OtherNumber batch) (λ (one : Staged). one.number ≡ number → one.parts ≡ found.parts) (λ one differ equal. absurd (differ (numbered ∙ sym equal))) batches p.0,
          ))
      | false ↦ (λ h. (
        (λ equal. absurd (Each-find (OtherNumber batch) q batches found h p.0 (equal ∙ sym is))),
        only_one q batches found number h is p.1,
      ))
    ] e

pub number-grown : (number : ℕ) (parts : List Part) (batch : Staged) → (grown number parts batch).number ≡ batch.number
number-grown number parts batch =
    elim (batch.number == number) as (λ v. let left : Staged = cond v (record batch { parts = batch.parts ++ parts }) batch in left.number ≡ batch.number) [ true ↦ refl | false ↦ refl ]

in_batch-grown : (moment counter number : ℕ) (parts staged : List Part) (batch : Staged) → fit (staged ++ parts) ≡ true → (batch.number ≡ number → batch.parts ≡ staged) → InBatch moment counter batch → InBatch moment counter (grown number parts batch)
in_batch-grown moment counter number parts staged batch fits only h =
    elim (batch.number == number) as (λ v. (batch.number == number) ≡ v → InBatch moment counter (cond v (record batch { parts = batch.parts ++ parts }) batch)) [
      | true ↦ (λ t.
          let same : batch.number ≡ number = grind (arith, nat_tests) in
          let whole : fit (batch.parts ++ parts) ≡ true = ap (λ front. fit (front ++ parts)) (only same) ∙ fits in
          let long : nat_le (length (batch.parts ++ parts)) most_batch_records ≡ true = both_left (nat_le (length (batch.parts ++ parts)) most_batch_records) (nat_le (part_bytes (batch.parts ++ parts)) most_batch_bytes) whole in
          let large : nat_le (part_bytes (batch.parts ++ parts)) most_batch_bytes ≡ true = both_right (nat_le (length (batch.parts ++ parts)) most_batch_records) (nat_le (part_bytes (batch.parts ++ parts)) most_batch_bytes) whole in
          record { given = h.given; counted = h.counted; begun = h.begun; records = leb-true _ _ long; bytes = leb-true _ _ large })
      | false ↦ (λ t. h)
    ] refl

batched-append_at : (moment counter number : ℕ) (parts : List Part) (batches : List Staged) (collection : List ℕ) (found : Option Staged)
    → find (λ (batch : Staged). batch.number == number && bytes_eq batch.collection collection) batches ≡ found → is_none found ≡ false
    → fit (option_map_or (λ (batch : Staged). batch.parts) found [] ++ parts) ≡ true → Batched moment counter batches → Batched moment counter (map (grown number parts) batches)
batched-append_at moment counter number parts batches collection None e f fits b = cc
batched-append_at moment counter number parts batches collection (Some found) e f fits b =
    let q : Staged → Bool = λ batch. batch.number == number && bytes_eq batch.collection collection in
    let test : (found.number == number) ≡ true = both_left (found.number == number) (bytes_eq found.collection collection) (find-passes q batches found e) in
    let is : found.number ≡ number = grind (arith, nat_tests) in
    record {
      few = omega (arith, length-map batches (grown number parts), b.few);
      numbers = Pairs-map OtherNumber OtherNumber (grown number parts) (λ batch other differ equal. differ (sym (number-grown number parts batch) ∙ equal ∙ number-grown number parts other)) batches b.numbers;
      each = Each-map (λ (batch : Staged). InBatch moment counter batch × (batch.number ≡ number → batch.parts ≡ found.parts)) (InBatch moment counter) (grown number parts)
          (λ batch h. in_batch-grown moment counter number parts found.parts batch fits h.1 h.0) batches
          (Each-and (InBatch moment counter) (λ (batch : Staged). batch.number ≡ number → batch.parts ≡ found.parts) batches b.each (only_one q batches found number e is b.numbers));
    }

-- the clock
stored-tick : (account : Plain) (now : ℕ) → Stored (shown account) → Stored (shown (tick account now))
stored-tick account now s = record {
  places = Pairs-filter Apart (is_alive (after account.moment now)) account.rows s.places;
  names = s.names;
  bytes = omega (arith, sum_by-filter_le (is_alive (after account.moment now)) (λ (row : Row). length row.payload) account.rows, s.bytes);
  number = omega (arith, length-filter_le (is_alive (after account.moment now)) account.rows, s.number);
  items = Each-filter (IsItem account.collections) (is_alive (after account.moment now)) account.rows s.items;
  times = s.times;
  store = omega (arith, s.store);
  moment = omega (arith, s.moment);
}

batched-tick : (account : Plain) (now : ℕ) → Batched account.moment account.counter account.batches → Batched (tick account now).moment (tick account now).counter (tick account now).batches
batched-tick account now b =
    batched-later account.moment (after account.moment now) account.counter (filter (is_open (after account.moment now)) account.batches) (omega arith)
    (batched-filter account.moment account.counter (is_open (after account.moment now)) account.batches b)

pub valid-tick : (account : Plain) (now : ℕ) → IsValid account → IsValid (tick account now)
valid-tick account now v = valid_from (tick account now) (stored-tick account now (stored_from account v)) (batched-tick account now (batched_from account v))

-- a write that leaves these rows of a collection
stored-stamped : (account : Plain) (collection : List ℕ) (rows : List Row) → account.store < last_stamp → IsWithinLimits (account_after_write account collection (stamp_in account) rows)
    → Pairs Apart rows → Each (IsItem (times_with collection (stamp_in account) account.collections)) rows → Stored (shown account) → Stored (shown (account_after_write account collection (stamp_in account) rows))
stored-stamped account collection rows room within places items s = record {
  places = places;
  names = names_with account.collections collection (stamp_in account) s.names;
  bytes = within-bytes rows (length (times_with collection (stamp_in account) account.collections)) within.within;
  number = within-number rows (length (times_with collection (stamp_in account) account.collections)) within.within;
  items = items;
  times = Each-append (λ (entry : List ℕ × ℕ). entry.1 ≤ stamp_in account) (times_without collection account.collections) ((collection, stamp_in account) ∷ [])
      (Each-imp (λ (entry : List ℕ × ℕ). entry.1 ≤ account.store) (λ (entry : List ℕ × ℕ). entry.1 ≤ stamp_in account) (λ entry le. omega arith) (times_without collection account.collections)
      (Each-filter (λ (entry : List ℕ × ℕ). entry.1 ≤ account.store) (λ entry. not (bytes_eq entry.0 collection)) account.collections s.times))
      (omega arith, tt);
  store = omega arith;
  moment = omega (arith, s.moment);
}

stored-write : (account : Plain) (collection : List ℕ) (parts : List Part) → account.store < last_stamp → IsWithinLimits (write account collection parts (stamp_in account))
    → Stored (shown account) → Stored (shown (write account collection parts (stamp_in account)))
stored-write account collection parts room within s =
    let later : account.store ≤ stamp_in account = omega arith in
    stored-stamped account collection (rows_written collection parts (stamp_in account) account.rows) room within
    (places-written collection parts (stamp_in account) account.rows s.places)
    (items-written collection parts (stamp_in account) account.store account.collections account.rows later s.times s.items) s

stored-without : (account : Plain) (collection : List ℕ) (ids : List (List ℕ)) → account.store < last_stamp → IsWithinLimits (account_after_write account collection (stamp_in account) (rows_without collection ids account.rows))
    → Stored (shown account) → Stored (shown (account_after_write account collection (stamp_in account) (rows_without collection ids account.rows)))
stored-without account collection ids room within s =
    let keep : Row → Bool = λ row. not (bytes_eq row.collection collection && is_among ids row.id) in
    stored-stamped account collection (rows_without collection ids account.rows) room within (Pairs-filter Apart keep account.rows s.places)
    (Each-imp (IsItem account.collections) (IsItem (times_with collection (stamp_in account) account.collections))
    (λ row h. item_kept account.collections collection (stamp_in account) account.store row (omega arith) s.times h) (rows_without collection ids account.rows)
    (Each-filter (IsItem account.collections) keep account.rows s.items)) s

stored-write_some : (account : Plain) (collection : List ℕ) (parts : List Part) → (not (is_empty parts) && nat_le last_stamp account.store) ≡ false → (not (is_empty parts) && is_over (write_some account collection parts)) ≡ false
    → Stored (shown account) → Stored (shown (write_some account collection parts))
stored-write_some account collection [] clock over s = s
stored-write_some account collection (part ∷ parts) clock over s =
    stored-write account collection (part ∷ parts) (clock_from true account.store clock refl) (over_from true (write account collection (part ∷ parts) (stamp_in account)) over refl) s

stored-cond : (writes : Bool) (account : Plain) (collection : List ℕ) (ids : List (List ℕ)) → (writes && nat_le last_stamp account.store) ≡ false
    → (writes && is_over (cond writes (account_after_write account collection (stamp_in account) (rows_without collection ids account.rows)) account)) ≡ false
    → Stored (shown account) → Stored (shown (cond writes (account_after_write account collection (stamp_in account) (rows_without collection ids account.rows)) account))
stored-cond true account collection ids clock over s =
    stored-without account collection ids (clock_from true account.store clock refl) (over_from true (account_after_write account collection (stamp_in account) (rows_without collection ids account.rows)) over refl) s
stored-cond false account collection ids clock over s = s

-- a deleted collection takes its rows along
item_left : (times : List (List ℕ × ℕ)) (collection : List ℕ) (row : Row) → bytes_eq row.collection collection ≡ false → IsItem times row → IsItem (times_without collection times) row
item_left times collection row e h =
    let P : Option ℕ → Type 0 = λ o. IsSomeAnd o (λ t. row.modified ≤ t) in subst P (sym (time_of-without times collection row.collection e)) h

stored-delete_collection : (account : Plain) (collection : List ℕ) (condition : Cond) → account.store < last_stamp → IsWithinLimits (effect account (DeleteCollection collection condition))
    → Stored (shown account) → Stored (shown (effect account (DeleteCollection collection condition)))
stored-delete_collection account collection condition room within s =
    let keep : Row → Bool = λ row. not (bytes_eq row.collection collection) in
    let kept : (List ℕ × ℕ) → Bool = λ entry. not (bytes_eq entry.0 collection) in
    record {
      places = Pairs-filter Apart keep account.rows s.places;
      names = Pairs-filter NamedApart kept account.collections s.names;
      bytes = within-bytes (filter keep account.rows) (length (times_without collection account.collections)) within.within;
      number = within-number (filter keep account.rows) (length (times_without collection account.collections)) within.within;
      items = Each-imp (λ (row : Row). (keep row ≡ true) × IsItem account.collections row) (IsItem (times_without collection account.collections))
          (λ row h. item_left account.collections collection row (not-true (bytes_eq row.collection collection) h.0) h.1) (filter keep account.rows)
          (Each-and (λ (row : Row). keep row ≡ true) (IsItem account.collections) (filter keep account.rows) (Each-passes keep account.rows) (Each-filter (IsItem account.collections) keep account.rows s.items));
      times = Each-imp (λ (entry : List ℕ × ℕ). entry.1 ≤ account.store) (λ (entry : List ℕ × ℕ). entry.1 ≤ stamp_in account) (λ entry le. omega arith) (times_without collection account.collections)
          (Each-filter (λ (entry : List ℕ × ℕ). entry.1 ≤ account.store) kept account.collections s.times);
      store = omega arith;
      moment = omega (arith, s.moment);
    }

stored-delete_all : (account : Plain) (condition : Cond) → account.store < last_stamp → Stored (shown account) → Stored (shown (effect account (DeleteAll condition)))
stored-delete_all account condition room s = record {
  places = tt;
  names = tt;
  bytes = omega arith;
  number = omega arith;
  items = tt;
  times = tt;
  store = omega arith;
  moment = omega (arith, s.moment);
}

stored-done : (account : Plain) (request : Request) → Passes account request → Stored (shown account) → Stored (shown (effect account request))
stored-done account (Info what condition) p s = s
stored-done account (DeleteAll condition) p s = stored-delete_all account condition (clock_from true account.store p.clock refl) s
stored-done account (ListOf collection query condition) p s = s
stored-done account (Post collection records mode condition) p s = stored-write_some account collection (parts_to_put account collection records.parts mode) p.clock p.over s
stored-done account (DeleteCollection collection condition) p s =
    stored-delete_collection account collection condition (clock_from true account.store p.clock refl) (over_from true (effect account (DeleteCollection collection condition)) p.over refl) s
stored-done account (DeleteIds collection ids condition) p s = stored-cond (is_some (time_of collection account.collections)) account collection ids p.clock p.over s
stored-done account (Get collection id condition) p s = s
stored-done account (Put collection id fields condition) p s =
    stored-write account collection (record { id = id; fields = fields } ∷ []) (clock_from true account.store p.clock refl) (over_from true (effect account (Put collection id fields condition)) p.over refl) s
stored-done account (Delete collection id condition) p s =
    stored-without account collection (id ∷ []) (clock_from true account.store p.clock refl) (over_from true (effect account (Delete collection id condition)) p.over refl) s

-- the batches
moment-write_some : (account : Plain) (collection : List ℕ) (parts : List Part) → account.moment ≤ (write_some account collection parts).moment
moment-write_some account collection [] = omega arith
moment-write_some account collection (part ∷ parts) = omega arith

batched-cond : (writes : Bool) (account : Plain) (collection : List ℕ) (rows : List Row) → Batched account.moment account.counter account.batches
    → let left : Plain = cond writes (account_after_write account collection (stamp_in account) rows) account in Batched left.moment left.counter left.batches
batched-cond true account collection rows b = batched-later account.moment (stamp_in account) account.counter account.batches (omega arith) b
batched-cond false account collection rows b = b

room_from : (batches : List Staged) (counter : ℕ) → (nat_le most_live_batches (length batches) || nat_le last_stamp counter) ≡ false → length batches < most_live_batches
room_from batches counter e = grind (arith, nat_tests)

batched-done : (account : Plain) (request : Request) → Passes account request → IsFitRequest request → Batched account.moment account.counter account.batches
    → Batched (effect account request).moment (effect account request).counter (effect account request).batches
batched-done account (Info what condition) p fit_request b = b
batched-done account (DeleteAll condition) p fit_request b = record { few = omega arith; numbers = tt; each = tt }
batched-done account (ListOf collection query condition) p fit_request b = b
batched-done account (Post collection records PlainPost condition) p fit_request b =
    batched-later account.moment (write_some account collection records.parts).moment account.counter account.batches (moment-write_some account collection records.parts) b
batched-done account (Post collection records Begin condition) p fit_request b =
    batched-begin account.moment account.counter account.batches (record { number = account.counter + 1; collection = collection; begun = account.moment; parts = records.parts })
    (room_from account.batches account.counter p.room) refl (omega arith) (omega (arith, fit_request.0)) (omega (arith, fit_request.1)) b
batched-done account (Post collection records (Append number) condition) p fit_request b =
    batched-append_at account.moment account.counter number records.parts account.batches collection (batch_of account collection number) refl p.batch (not-false _ p.full) b
batched-done account (Post collection records (Commit number) condition) p fit_request b =
    batched-later account.moment (write_some account collection (staged_parts account collection number ++ records.parts)).moment account.counter (filter (λ batch. not (batch.number == number)) account.batches)
    (moment-write_some account collection (staged_parts account collection number ++ records.parts))
    (batched-filter account.moment account.counter (λ batch. not (batch.number == number)) account.batches b)
batched-done account (DeleteCollection collection condition) p fit_request b =
    batched-later account.moment (stamp_in account) account.counter (filter (λ batch. not (bytes_eq batch.collection collection)) account.batches) (omega arith)
    (batched-filter account.moment account.counter (λ batch. not (bytes_eq batch.collection collection)) account.batches b)
batched-done account (DeleteIds collection ids condition) p fit_request b = batched-cond (is_some (time_of collection account.collections)) account collection (rows_without collection ids account.rows) b
batched-done account (Get collection id condition) p fit_request b = b
batched-done account (Put collection id fields condition) p fit_request b = batched-later account.moment (stamp_in account) account.counter account.batches (omega arith) b
batched-done account (Delete collection id condition) p fit_request b = batched-later account.moment (stamp_in account) account.counter account.batches (omega arith) b

valid-turned : (account : Plain) (request : Request) (why : Option Refusal) → refusal account request ≡ why → IsFitRequest request → IsValid account → IsValid (outcome account request why).account
valid-turned account request (Some why) e fit_request v = v
valid-turned account request None e fit_request v =
    let p = passes account request e in
    valid_from (effect account request) (stored-done account request p (stored_from account v)) (batched-done account request p fit_request (batched_from account v))

pub valid-api : (account : Plain) (now : ℕ) (request : Request) → IsValid account → IsFitRequest request → IsValid (api account now request).account
valid-api account now request v fit_request =
    valid-turned (tick account now) request (refusal (tick account now) request) refl fit_request (valid-tick account now v)
