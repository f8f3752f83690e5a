-- Requests that leave the bookmarks alone.
use Rattle.std.specs.Prelude.{◌≡◌, ℕ, ◌+◌, ◌≤◌, Bool, true, false, not, ◌&&◌, ◌==◌, cond, List, [], ◌∷◌, ◌++◌, length}
use Rattle.std.specs.Prelude.{map, filter, filter_map, Option, Some, None, option_map, is_none, is_some, unwrap_or}
use Rattle.std.specs.Prelude.{bytes_eq, refl}
use Rattle.std.proofs.Common.{sym, ap, subst, ◌∙◌, arith}
use Rattle.ss_bso.specs.declared.rows.Row.{Row}
use Rattle.ss_bso.specs.declared.parts.Part.{Part}
use Rattle.ss_bso.specs.declared.account.Plain.{Plain}
use Rattle.ss_bso.specs.declared.account.Staged.{Staged}
use Rattle.ss_bso.specs.Account.{time_of}
use Rattle.ss_bso.specs.Batches.{batch_in, grown}
use Rattle.ss_bso.specs.Limits.{rows_of}
use Rattle.ss_bso.specs.Write.{ids_of, is_among, rows_written, rows_without, account_after_write}
use Rattle.ss_query.specs.declared.requests.Request.{Request}
use Rattle.ss_query.specs.declared.requests.Request.TheVariants.{Info, DeleteAll, List as ListOf, Post}
use Rattle.ss_query.specs.declared.requests.Request.TheVariants.{DeleteCollection, DeleteIds, Get, Put, Delete}
use Rattle.ss_query.specs.declared.requests.Mode.TheVariants.{Plain as PlainPost, Begin, Append, Commit}
use Rattle.ss_query.specs.Refused.{Refusal, collection_time, staged_parts}
use Rattle.ss_query.specs.Effect.{effect, is_empty, write_some, stamp_in}
use Rattle.ss_query.specs.Api.{outcome, refusal}
use Rattle.ss_bso.specs.Lists.{Each, Pairs}
use Rattle.ss_bso.proofs.Lists.{Each-and, Each-imp, Each-map, Each-append, Each-filter, Each-filter_map, Pairs-filter}
use Rattle.ss_bso.proofs.Lists.{find-last_not}
use Rattle.ss_laws.proofs.Times.{time_of-with_other, time_of-without}
use Rattle.ss_bso.specs.Lists.{Apart}
use Rattle.ss_bso.proofs.Lists.{Each-any}
use Rattle.ss_laws.proofs.Written.{made, made_named, places-written}
use Rattle.ss_laws.proofs.Commit.{Passes, passes}
use Rattle.ss_laws.proofs.CommitLaw.{over_from}
use Rattle.ss_bso.specs.Limits.{most_rows_and_collections}
use Rattle.ss_serving.specs.Bookmarks.{bookmarks, sheets_of, shown_account}
use Rattle.ss_serving.specs.Asking.{touches}
use Rattle.ss_serving.specs.Good.{Lasts, OtherNumber, IsGoodBatch, IsGood}
use Rattle.ss_serving.specs.Serving.{IsQuiet, Ages}
use Rattle.ss_serving.proofs.Lists.{Among, each_among, among_find, filter_within, filter_none, filter_append}
use Rattle.ss_serving.proofs.Lists.{append_none}
use Rattle.ss_serving.proofs.Seen.{sheets_same}
use Rattle.ss_serving.proofs.Batches.{parts_in, is_it, found_before, found_number, found_collection, found_grown}
use Rattle.ss_serving.proofs.Batches.{grown_not, one_number}
use Rattle.ss_serving.proofs.Ticking.{staged_before, ages_same}
use Rattle.ss_serving.proofs.Posting.{room_in, good_grown, numbers_grown, numbers_more, batches_more}
use Rattle.ss_text.proofs.Basics.{and_false, bytes_eq-flip, same_text, no_way, length-filter_le}
use Rattle.std.proofs.lemmas.Bool.{not_from_false}

-- a row of another collection is no bookmark
is_other : (collection name : List ℕ) → bytes_eq bookmarks collection ≡ false → name ≡ collection → bytes_eq name bookmarks ≡ false
is_other collection name e same = ap (λ n. bytes_eq n bookmarks) same ∙ bytes_eq-flip bookmarks collection e

module _ (collection : List ℕ) (else : bytes_eq bookmarks collection ≡ false) where
  -- a bookmark isn't of the other collection
  kept_here : (row : Row) → bytes_eq row.collection bookmarks ≡ true → bytes_eq row.collection collection ≡ false
  kept_here row here = ap (λ n. bytes_eq n collection) (same_text row.collection bookmarks here) ∙ else

  kept_beside : (ids : List (List ℕ)) (row : Row) → bytes_eq row.collection bookmarks ≡ true → not (bytes_eq row.collection collection && is_among ids row.id) ≡ true
  kept_beside ids row here = not_from_false (bytes_eq row.collection collection && is_among ids row.id) (ap (λ v. v && is_among ids row.id) (kept_here row here))

  rows_beside : (ids : List (List ℕ)) (rows : List Row) → rows_of bookmarks (rows_without collection ids rows) ≡ rows_of bookmarks rows
  rows_beside ids rows =
      filter_within (λ row. bytes_eq row.collection bookmarks) (λ row. not (bytes_eq row.collection collection && is_among ids row.id)) rows
      (Each-imp (λ (row : Row). Unit {0}) (λ (row : Row). bytes_eq row.collection bookmarks ≡ true → not (bytes_eq row.collection collection && is_among ids row.id) ≡ true) (λ row _. kept_beside ids row) rows (Each-any rows))

  rows_elsewhere : (rows : List Row) → rows_of bookmarks (filter (λ row. not (bytes_eq row.collection collection)) rows) ≡ rows_of bookmarks rows
  rows_elsewhere rows =
      filter_within (λ row. bytes_eq row.collection bookmarks) (λ row. not (bytes_eq row.collection collection)) rows
      (Each-imp (λ (row : Row). Unit {0}) (λ (row : Row). bytes_eq row.collection bookmarks ≡ true → not (bytes_eq row.collection collection) ≡ true) (λ row _ here. not_from_false (bytes_eq row.collection collection) (kept_here row here)) rows (Each-any rows))

  made_other : (parts : List Part) (time : ℕ) (rows : List Row) (id : List ℕ) (row : Row) → made collection parts time rows id ≡ Some row → bytes_eq row.collection bookmarks ≡ false
  made_other parts time rows id row e = is_other collection row.collection else (made_named collection parts time rows id row e).named

  rows_put : (parts : List Part) (time : ℕ) (rows : List Row) → rows_of bookmarks (rows_written collection parts time rows) ≡ rows_of bookmarks rows
  rows_put parts time rows =
      let here : Row → Bool = λ row. bytes_eq row.collection bookmarks in
      filter_append here (rows_without collection (ids_of parts) rows) (filter_map (made collection parts time rows) (ids_of parts))
      ∙ ap (λ rest. rows_of bookmarks (rows_without collection (ids_of parts) rows) ++ rest)
      (filter_none here (filter_map (made collection parts time rows) (ids_of parts))
      (Each-filter_map (λ (id : List ℕ). Unit {0}) (λ (row : Row). bytes_eq row.collection bookmarks ≡ false) (made collection parts time rows) (λ id row _ e. made_other parts time rows id row e) (ids_of parts) (Each-any (ids_of parts))))
      ∙ append_none (rows_of bookmarks (rows_without collection (ids_of parts) rows))
      ∙ rows_beside (ids_of parts) rows

  lasting_put : (parts : List Part) (time : ℕ) (rows : List Row) → Each Lasts rows → Each Lasts (rows_written collection parts time rows)
  lasting_put parts time rows all =
      Each-append Lasts (rows_without collection (ids_of parts) rows) (filter_map (made collection parts time rows) (ids_of parts))
      (Each-filter Lasts (λ row. not (bytes_eq row.collection collection && is_among (ids_of parts) row.id)) rows all)
      (Each-filter_map (λ (id : List ℕ). Unit {0}) Lasts (made collection parts time rows) (λ id row _ e here. no_way (bytes_eq row.collection bookmarks) here (made_other parts time rows id row e)) (ids_of parts) (Each-any (ids_of parts)))

-- a is an account, and t what the clock leaves of it
module _ {first : ℕ} (a t : Plain) (quiet : IsQuiet (shown_account a) (shown_account t)) (ages : Ages (shown_account a) (shown_account t)) (good : IsGood first t) where
  abbrev pub Calm : Plain → Type 0
  Calm b = IsGood first b × IsQuiet (shown_account a) (shown_account b) × Ages (shown_account a) (shown_account b)

  -- rows, the target's time and the store's time that may be left
  record Stays (rows : List Row) (target store : ℕ) : Type 0 where
    same : rows_of bookmarks rows ≡ rows_of bookmarks t.rows
    places : Pairs Apart rows
    number : length rows ≤ most_rows_and_collections
    lasting : Each Lasts rows
    time : collection_time t bookmarks ≤ target
    below : target ≤ store
    later : t.store ≤ store

  -- batches and a counter that may be left
  record Remain (batches : List Staged) (counter : ℕ) : Type 0 where
    numbers : Pairs OtherNumber batches
    each : Each (IsGoodBatch first counter) batches
    count : t.counter ≤ counter
    less : (n : ℕ) (parts : List Part) → option_map parts_in (batch_in bookmarks n batches) ≡ Some parts → option_map parts_in (batch_in bookmarks n t.batches) ≡ Some parts

  calm : (b : Plain) → Stays b.rows (collection_time b bookmarks) b.store → Remain b.batches b.counter → Calm b
  calm b s r =
      let rows : sheets_of b.rows ≡ sheets_of a.rows = sheets_same b.rows t.rows s.same ∙ quiet.rows in (
        record { places = s.places; number = s.number; lasting = s.lasting; below = s.below; since = omega (arith, good.since, r.count); numbers = r.numbers; batches = r.each },
        record { rows = rows; target = omega (arith, quiet.target, s.time); counter = omega (arith, quiet.counter, r.count); staged = λ n parts e. quiet.staged n parts (r.less n parts e) },
        ages_same (shown_account a) (shown_account b) rows (omega (arith, ages.store, s.later)),
      )

  -- rows
  same_stays : Stays t.rows (collection_time t bookmarks) t.store
  same_stays = record { same = refl; places = good.places; number = good.number; lasting = good.lasting; time = omega arith; below = good.below; later = omega arith }

  module _ (collection : List ℕ) (else : bytes_eq bookmarks collection ≡ false) where
    stamped_stays : (rows : List Row) → rows_of bookmarks rows ≡ rows_of bookmarks t.rows → Pairs Apart rows → length rows ≤ most_rows_and_collections → Each Lasts rows
        → Stays rows (collection_time (account_after_write t collection (stamp_in t) rows) bookmarks) (stamp_in t)
    stamped_stays rows same places number lasting =
        let at : collection_time (account_after_write t collection (stamp_in t) rows) bookmarks ≡ collection_time t bookmarks =
        ap (λ (o : Option ℕ). unwrap_or o t.last_delete) (time_of-with_other t.collections collection bookmarks (stamp_in t) else) in
        let low : collection_time t bookmarks ≤ t.store = good.below in
        record { same = same; places = places; number = number; lasting = lasting; time = omega arith; below = omega arith; later = omega arith }

    without_stays : (ids : List (List ℕ)) → Stays (rows_without collection ids t.rows) (collection_time (account_after_write t collection (stamp_in t) (rows_without collection ids t.rows)) bookmarks) (stamp_in t)
    without_stays ids =
        let keep : Row → Bool = λ row. not (bytes_eq row.collection collection && is_among ids row.id) in
        stamped_stays (rows_without collection ids t.rows) (rows_beside collection else ids t.rows) (Pairs-filter Apart keep t.rows good.places)
        (omega (arith, length-filter_le (λ row. not (bytes_eq row.collection collection && is_among ids row.id)) t.rows, good.number)) (Each-filter Lasts keep t.rows good.lasting)

    some_stays : (parts : List Part) → (not (is_empty parts) ≡ true → length (write_some t collection parts).rows ≤ most_rows_and_collections)
        → Stays (write_some t collection parts).rows (collection_time (write_some t collection parts) bookmarks) (write_some t collection parts).store
    some_stays [] room = same_stays
    some_stays (part ∷ parts) room =
        stamped_stays (rows_written collection (part ∷ parts) (stamp_in t) t.rows) (rows_put collection else (part ∷ parts) (stamp_in t) t.rows) (places-written collection (part ∷ parts) (stamp_in t) t.rows good.places) (room refl)
        (lasting_put collection else (part ∷ parts) (stamp_in t) t.rows good.lasting)

    deleted_time : (o : Option ℕ) → unwrap_or o t.last_delete ≤ t.store → (unwrap_or o t.last_delete ≤ unwrap_or o (stamp_in t)) × (unwrap_or o (stamp_in t) ≤ stamp_in t)
    deleted_time None le = (omega arith, omega arith)
    deleted_time (Some time) le = (omega arith, omega arith)

    -- batches
    begun_remain : (parts : List Part) → Remain (t.batches ++ record { number = t.counter + 1; collection = collection; begun = t.moment; parts = parts } ∷ []) (t.counter + 1)
    begun_remain parts =
        let new : Staged = record { number = t.counter + 1; collection = collection; begun = t.moment; parts = parts } in
        let far : bytes_eq collection bookmarks ≡ false = bytes_eq-flip bookmarks collection else in
        record {
          numbers = numbers_more first t.counter new t.batches refl good.numbers good.batches;
          each = batches_more first t.counter new t.batches refl (λ here. no_way (bytes_eq collection bookmarks) here far) good.batches;
          count = omega arith;
          less = λ n staged e. sym (ap (option_map parts_in) (find-last_not (is_it bookmarks n) t.batches new (ap (λ v. (t.counter + 1 == n) && v) far ∙ and_false (t.counter + 1 == n)))) ∙ e;
        }

    -- the batch that grows isn't one of the bookmarks
    apart_from : (number : ℕ) (found : Option Staged) → batch_in collection number t.batches ≡ found → is_none found ≡ false → (batch : Staged) → Among batch t.batches → bytes_eq batch.collection bookmarks ≡ true → batch.number ≡ number → ⊥
    apart_from number None e f batch h here is = cc
    apart_from number (Some found) e f batch h here is =
        let one : batch ≡ found = one_number t.batches good.numbers batch found h (among_find (is_it collection number) t.batches found e) (is ∙ sym (found_number collection number t.batches found e)) in
        let name : batch.collection ≡ collection = ap (λ (b : Staged). b.collection) one ∙ same_text found.collection collection (found_collection collection number t.batches found e) in
        no_way (bytes_eq batch.collection bookmarks) here (is_other collection batch.collection else name)

    grown_remain : (number : ℕ) (parts : List Part) → is_none (batch_in collection number t.batches) ≡ false → Remain (map (grown number parts) t.batches) t.counter
    grown_remain number parts f = record {
      numbers = numbers_grown number parts t.batches good.numbers;
      each = Each-map (λ (batch : Staged). IsGoodBatch first t.counter batch × (bytes_eq batch.collection bookmarks ≡ true → batch.number ≡ number → ⊥)) (IsGoodBatch first t.counter) (grown number parts)
          (λ batch h. good_grown t.counter number parts batch (λ here is. absurd (h.1 here is)) h.0) t.batches
          (Each-and (IsGoodBatch first t.counter) (λ (batch : Staged). bytes_eq batch.collection bookmarks ≡ true → batch.number ≡ number → ⊥) t.batches good.batches
          (each_among (λ (batch : Staged). bytes_eq batch.collection bookmarks ≡ true → batch.number ≡ number → ⊥) t.batches (λ batch h. apart_from number (batch_in collection number t.batches) refl f batch h)));
      count = omega arith;
      less = λ n staged e. unchanged n staged (batch_in bookmarks n t.batches) refl (sym (ap (option_map parts_in) (found_grown bookmarks n number parts t.batches)) ∙ e);
    }
      where
        unchanged : (n : ℕ) (staged : List Part) (o : Option Staged) → batch_in bookmarks n t.batches ≡ o → option_map parts_in (option_map (grown number parts) o) ≡ Some staged → option_map parts_in o ≡ Some staged
        unchanged n staged None is h = h
        unchanged n staged (Some one) is h =
            ap (λ b. Some (parts_in b)) (sym (grown_not number parts one (λ same.
            apart_from number (batch_in collection number t.batches) refl f one (among_find (is_it bookmarks n) t.batches one is) (found_collection bookmarks n t.batches one is) same))) ∙ h

  same_remain : Remain t.batches t.counter
  same_remain = record { numbers = good.numbers; each = good.batches; count = omega arith; less = λ n parts e. e }

  filter_remain : (keep : Staged → Bool) → Remain (filter keep t.batches) t.counter
  filter_remain keep = record {
    numbers = Pairs-filter OtherNumber keep t.batches good.numbers;
    each = Each-filter (IsGoodBatch first t.counter) keep t.batches good.batches;
    count = omega arith;
    less = λ n parts e. staged_before (batch_in bookmarks n (filter keep t.batches)) (batch_in bookmarks n t.batches) (λ batch h. found_before bookmarks n keep t.batches good.numbers batch h) parts e;
  }

  ids_calm : (collection : List ℕ) → bytes_eq bookmarks collection ≡ false → (ids : List (List ℕ)) (b : Bool) → Calm (cond b (account_after_write t collection (stamp_in t) (rows_without collection ids t.rows)) t)
  ids_calm collection else ids true = calm (account_after_write t collection (stamp_in t) (rows_without collection ids t.rows)) (without_stays collection else ids) same_remain
  ids_calm collection else ids false = (good, quiet, ages)

  done_calm : (request : Request) → touches request ≡ false → Passes t request → Calm (effect t request)
  done_calm (Info what cond) e p = (good, quiet, ages)
  done_calm (DeleteAll cond) e p = cc
  done_calm (ListOf collection query cond) e p = (good, quiet, ages)
  done_calm (Post collection records PlainPost cond) e p =
      calm (effect t (Post collection records PlainPost cond))
      (some_stays collection e records.parts (λ f. room_in (effect t (Post collection records PlainPost cond)) (over_from (not (is_empty records.parts)) (effect t (Post collection records PlainPost cond)) p.over f))) same_remain
  done_calm (Post collection records Begin cond) e p = calm (effect t (Post collection records Begin cond)) same_stays (begun_remain collection e records.parts)
  done_calm (Post collection records (Append number) cond) e p = calm (effect t (Post collection records (Append number) cond)) same_stays (grown_remain collection e number records.parts p.batch)
  done_calm (Post collection records (Commit number) cond) e p =
      calm (effect t (Post collection records (Commit number) cond))
      (some_stays collection e (staged_parts t collection number ++ records.parts) (λ f.
      room_in (effect t (Post collection records (Commit number) cond)) (over_from (not (is_empty (staged_parts t collection number ++ records.parts))) (effect t (Post collection records (Commit number) cond)) p.over f)))
      (filter_remain (λ batch. not (batch.number == number)))
  done_calm (DeleteCollection collection cond) e p =
      let keep : Row → Bool = λ row. not (bytes_eq row.collection collection) in
      let o : Option ℕ = time_of bookmarks t.collections in
      let at : collection_time (effect t (DeleteCollection collection cond)) bookmarks ≡ unwrap_or (time_of bookmarks t.collections) (stamp_in t) =
      ap (λ (time : Option ℕ). unwrap_or time (stamp_in t)) (time_of-without t.collections collection bookmarks e) in
      let h = deleted_time collection e (time_of bookmarks t.collections) good.below in
      calm (effect t (DeleteCollection collection cond))
      (record {
        same = rows_elsewhere collection e t.rows;
        places = Pairs-filter Apart keep t.rows good.places;
        number = omega (arith, length-filter_le (λ row. not (bytes_eq row.collection collection)) t.rows, good.number);
        lasting = Each-filter Lasts keep t.rows good.lasting;
        time = subst (λ n. collection_time t bookmarks ≤ n) (sym at) h.0;
        below = subst (λ n. n ≤ stamp_in t) (sym at) h.1;
        later = omega arith;
      })
      (filter_remain (λ batch. not (bytes_eq batch.collection collection)))
  done_calm (DeleteIds collection ids cond) e p = ids_calm collection e ids (is_some (time_of collection t.collections))
  done_calm (Get collection id cond) e p = (good, quiet, ages)
  done_calm (Put collection id fields cond) e p =
      let parts : List Part = record { id = id; fields = fields } ∷ [] in
      calm (effect t (Put collection id fields cond))
      (some_stays collection e (record { id = id; fields = fields } ∷ []) (λ f. room_in (effect t (Put collection id fields cond)) (over_from true (effect t (Put collection id fields cond)) p.over f))) same_remain
  done_calm (Delete collection id cond) e p = calm (effect t (Delete collection id cond)) (without_stays collection e (id ∷ [])) same_remain

  turned_calm : (request : Request) → touches request ≡ false → (why : Option Refusal) → refusal t request ≡ why → Calm (outcome t request why).account
  turned_calm request e (Some why) f = (good, quiet, ages)
  turned_calm request e None f = done_calm request e (passes t request f)

  pub turn_calm : (request : Request) → touches request ≡ false → Calm (outcome t request (refusal t request)).account
  turn_calm request e = turned_calm request e (refusal t request) refl
