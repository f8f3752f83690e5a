-- The API over accounts that are the same but for the order of their lists.
use Rattle.std.specs.Prelude.{◌≡◌, ◌≢◌, ℕ, ◌+◌, max, Bool, true, false, not, ◌&&◌, ◌||◌, cond, nat_le, nat_lt, ◌==◌}
use Rattle.std.specs.Prelude.{List, [], ◌∷◌, ◌++◌, length, map, filter, filter_map, Option, Some, None, is_none}
use Rattle.std.specs.Prelude.{is_some, option_map, unwrap_or, bytes_eq, refl}
use Rattle.std.specs.Option.{option_map_or}
use Rattle.std.proofs.Common.{subst, sym, ap, ◌∙◌}
use Rattle.ss_text.specs.Time.{after, last_stamp, stops}
use Rattle.ss_text.specs.Texts.{IsReordering, nothing}
use Rattle.ss_text.specs.declared.stamps.Cond.{Cond}
use Rattle.ss_bso.specs.declared.rows.Row.{Row}
use Rattle.ss_bso.specs.declared.parts.Part.{Part}
use Rattle.ss_bso.specs.declared.parts.Records.{Records}
use Rattle.ss_bso.specs.declared.account.Plain.{Plain}
use Rattle.ss_bso.specs.declared.account.Staged.{Staged}
use Rattle.ss_bso.specs.Account.{tick, is_alive, is_open, row_at, time_of}
use Rattle.ss_bso.specs.Limits.{most_live_batches, most_rows_and_collections, most_account_payload_bytes, rows_of}
use Rattle.ss_bso.specs.Validity.{IsValid, SameAccount}
use Rattle.ss_bso.specs.Write.{ids_of, parts_of, is_among, put_all, account_after_write, write, rows_without}
use Rattle.ss_bso.specs.Write.{rows_written}
use Rattle.ss_query.specs.declared.requests.Request.{Request}
use Rattle.ss_query.specs.declared.requests.Request.TheVariants.{Info, DeleteAll, List as ListOf, Post}
use Rattle.ss_query.specs.declared.requests.Request.TheVariants.{DeleteCollection, DeleteIds, Get, Put, Delete}
use Rattle.ss_query.specs.declared.requests.Mode.{Mode}
use Rattle.ss_query.specs.declared.requests.Mode.TheVariants.{Plain as PlainPost, Begin, Append, Commit}
use Rattle.ss_query.specs.declared.requests.Query.{Query}
use Rattle.ss_query.specs.declared.requests.Info.{Info as InfoKind}
use Rattle.ss_query.specs.declared.requests.Info.TheVariants.{Collections, Counts, Usage, Quota, Configuration}
use Rattle.ss_query.specs.declared.replies.Picked.{Picked}
use Rattle.ss_query.specs.declared.replies.Body.TheVariants.{Times, Counts as CountsBody, Usage as UsageBody}
use Rattle.ss_query.specs.declared.replies.Body.TheVariants.{Quota as QuotaBody, Staged as StagedBody, One, Empty}
use Rattle.ss_bso.specs.Batches.{fit}
use Rattle.ss_query.specs.Refused.{Refusal, NoItem, NoMoreBatches, NoBatch, BatchFull, ClockEnded, AccountFull}
use Rattle.ss_query.specs.Refused.{status_of, said_by, time_shown, condition_of, is_there, is_listed, has_item}
use Rattle.ss_query.specs.Refused.{target_time, collection_time, item_time, batch_of, staged_parts, continued_batch}
use Rattle.ss_query.specs.Refused.{begins}
use Rattle.ss_bso.specs.Batches.{grown}
use Rattle.ss_query.specs.Effect.{stamp_in, effect, is_write, is_over, is_empty, write_some, parts_to_put}
use Rattle.ss_query.specs.Effect.{batches_after, counter_after}
use Rattle.ss_query.specs.Told.{by_name, info_body, first_failures, post_body, picked_rows, rows_body, body_of}
use Rattle.ss_query.specs.Told.{ok_status, count_of, next_of}
use Rattle.ss_query.specs.Api.{why_stopped, refusal, outcome, api, first_some, where_so, misses_item, lacks_room}
use Rattle.ss_query.specs.Api.{misses_batch, overfills_batch, time_told}
use Rattle.ss_laws.specs.Laws.{SameOutcome}
use Rattle.ss_bso.proofs.Lists.{Pairs-filter, Pairs-from_AllPairs}
use Rattle.ss_bso.proofs.Reordering.{reordered-append_right, reordered-map, reordered-filter, length-reordered}
use Rattle.ss_bso.proofs.Reordering.{sum_by-reordered, find-reordered}
use Rattle.ss_bso.proofs.SameRows.{row-same, pairs_not_both, clash}
use Rattle.ss_bso.specs.Lists.{Pairs, Apart}
use Rattle.ss_query.proofs.Orders.{ids_distinct, answer-reordered, NamedApart, by_name-reordered}
use Rattle.ss_text.proofs.Basics.{both_left, same_text, bytes_eq-same}
use Rattle.std.proofs.lemmas.Bool.{eqb-true}

abbrev pub OtherNumber : Staged → Staged → Type 0
OtherNumber batch other = batch.number ≢ other.number

-- an account whose rows, collections and batches are told apart by their places, names and numbers
record Keyed (account : Plain) : Type 0 where
  places : Pairs Apart account.rows
  names : Pairs NamedApart account.collections
  numbers : Pairs OtherNumber account.batches

keyed_from : (account : Plain) → IsValid account → Keyed account
keyed_from account v = record {
  places = Pairs-from_AllPairs Apart account.rows v.places;
  names = Pairs-from_AllPairs NamedApart account.collections v.names;
  numbers = Pairs-from_AllPairs OtherNumber account.batches v.numbers;
}

pub time-same : (collection : List ℕ) (times others : List (List ℕ × ℕ)) → IsReordering times others → Pairs NamedApart times → time_of collection times ≡ time_of collection others
time-same collection times others r names =
    ap (λ found. option_map (λ (entry : List ℕ × ℕ). entry.1) found)
    (find-reordered (λ (entry : List ℕ × ℕ). bytes_eq entry.0 collection) r (pairs_not_both NamedApart (λ (entry : List ℕ × ℕ). bytes_eq entry.0 collection)
    (λ entry other apart e f. clash (bytes_eq other.0 entry.0) (bytes_eq-same other.0 entry.0 (same_text other.0 collection f ∙ sym (same_text entry.0 collection e))) apart)
    times names))

batch-same : (one other : Plain) (collection : List ℕ) (number : ℕ) → SameAccount one other → Keyed one → batch_of one collection number ≡ batch_of other collection number
batch-same one other collection number s k =
    let p : Staged → Bool = λ batch. batch.number == number && bytes_eq batch.collection collection in
    find-reordered p s.batches (pairs_not_both OtherNumber p
    (λ batch next differ e f.
    differ (eqb-true batch.number number (both_left (batch.number == number) (bytes_eq batch.collection collection) e)
    ∙ sym (eqb-true next.number number (both_left (next.number == number) (bytes_eq next.collection collection) f))))
    one.batches k.numbers)

-- the clock
pub tick-same : (one other : Plain) (now : ℕ) → SameAccount one other → SameAccount (tick one now) (tick other now)
tick-same one other now s = record {
  rows = subst (λ moment. IsReordering (filter (is_alive (after one.moment now)) one.rows) (filter (is_alive (after moment now)) other.rows)) s.moment (reordered-filter (is_alive (after one.moment now)) s.rows);
  collections = s.collections;
  batches = subst (λ moment. IsReordering (filter (is_open (after one.moment now)) one.batches) (filter (is_open (after moment now)) other.batches)) s.moment (reordered-filter (is_open (after one.moment now)) s.batches);
  store = s.store;
  last_delete = s.last_delete;
  moment = ap (λ moment. after moment now) s.moment;
  counter = s.counter;
}

tick-keyed : (account : Plain) (now : ℕ) → Keyed account → Keyed (tick account now)
tick-keyed account now k = record {
  places = Pairs-filter Apart (is_alive (after account.moment now)) account.rows k.places;
  names = k.names;
  numbers = Pairs-filter OtherNumber (is_open (after account.moment now)) account.batches k.numbers;
}

-- two accounts that are the same but for the order, the first with its keys
module _ (one other : Plain) (s : SameAccount one other) (k : Keyed one) where
  row_eq : (collection id : List ℕ) → row_at collection id one.rows ≡ row_at collection id other.rows
  row_eq collection id = row-same collection id one.rows other.rows s.rows k.places

  time_eq : (collection : List ℕ) → time_of collection one.collections ≡ time_of collection other.collections
  time_eq collection = time-same collection one.collections other.collections s.collections k.names

  batch_eq : (collection : List ℕ) (number : ℕ) → batch_of one collection number ≡ batch_of other collection number
  batch_eq collection number = batch-same one other collection number s k

  stamp_eq : stamp_in one ≡ stamp_in other
  stamp_eq = λ i. max (s.moment i) (s.store i + 1)

  collection_time_eq : (collection : List ℕ) → collection_time one collection ≡ collection_time other collection
  collection_time_eq collection = λ i. unwrap_or (time_eq collection i) (s.last_delete i)

  item_time_eq : (collection id : List ℕ) → item_time one collection id ≡ item_time other collection id
  item_time_eq collection id = λ i. option_map_or (λ (row : Row). row.modified) (row_eq collection id i) 0

  target_eq : (request : Request) → target_time one request ≡ target_time other request
  target_eq (Info what condition) = s.store
  target_eq (DeleteAll condition) = s.store
  target_eq (ListOf collection query condition) = collection_time_eq collection
  target_eq (Post collection records mode condition) = collection_time_eq collection
  target_eq (DeleteCollection collection condition) = collection_time_eq collection
  target_eq (DeleteIds collection ids condition) = collection_time_eq collection
  target_eq (Get collection id condition) = item_time_eq collection id
  target_eq (Put collection id fields condition) = item_time_eq collection id
  target_eq (Delete collection id condition) = item_time_eq collection id

  listed_eq : (collection : List ℕ) → is_listed one collection ≡ is_listed other collection
  listed_eq collection = ap is_some (time_eq collection)

  has_item_eq : (collection id : List ℕ) → has_item one collection id ≡ has_item other collection id
  has_item_eq collection id = ap is_some (row_eq collection id)

  there_eq : (request : Request) → is_there one request ≡ is_there other request
  there_eq (Info what condition) = ap (nat_lt 0) s.store
  there_eq (DeleteAll condition) = ap (nat_lt 0) s.store
  there_eq (ListOf collection query condition) = listed_eq collection
  there_eq (Post collection records mode condition) = listed_eq collection
  there_eq (DeleteCollection collection condition) = listed_eq collection
  there_eq (DeleteIds collection ids condition) = listed_eq collection
  there_eq (Get collection id condition) = has_item_eq collection id
  there_eq (Put collection id fields condition) = has_item_eq collection id
  there_eq (Delete collection id condition) = has_item_eq collection id

  staged_eq : (collection : List ℕ) (number : ℕ) → staged_parts one collection number ≡ staged_parts other collection number
  staged_eq collection number = ap (λ found. option_map_or (λ (batch : Staged). batch.parts) found []) (batch_eq collection number)

  put_eq : (collection : List ℕ) (parts : List Part) (mode : Mode) → parts_to_put one collection parts mode ≡ parts_to_put other collection parts mode
  put_eq collection parts PlainPost = refl
  put_eq collection parts Begin = refl
  put_eq collection parts (Append number) = refl
  put_eq collection parts (Commit number) = ap (λ staged. staged ++ parts) (staged_eq collection number)

  writes_eq : (request : Request) → is_write one request ≡ is_write other request
  writes_eq (Info what condition) = refl
  writes_eq (DeleteAll condition) = refl
  writes_eq (ListOf collection query condition) = refl
  writes_eq (Post collection records mode condition) = ap (λ parts. not (is_empty parts)) (put_eq collection records.parts mode)
  writes_eq (DeleteCollection collection condition) = refl
  writes_eq (DeleteIds collection ids condition) = ap is_some (time_eq collection)
  writes_eq (Get collection id condition) = refl
  writes_eq (Put collection id fields condition) = refl
  writes_eq (Delete collection id condition) = refl

  -- the effect
  stamped_at : (collection : List ℕ) (time : ℕ) (rows others : List Row) → IsReordering rows others → SameAccount (account_after_write one collection time rows) (account_after_write other collection time others)
  stamped_at collection time rows others r = record {
    rows = r;
    collections = reordered-append_right ((collection, time) ∷ []) (reordered-filter (λ (entry : List ℕ × ℕ). not (bytes_eq entry.0 collection)) s.collections);
    batches = s.batches;
    store = refl;
    last_delete = s.last_delete;
    moment = refl;
    counter = s.counter;
  }

  write_at : (collection : List ℕ) (parts : List Part) (time : ℕ) → SameAccount (write one collection parts time) (write other collection parts time)
  write_at collection parts time =
      let made : List Row → List ℕ → Option Row = λ rows id. put_all collection (parts_of id parts) time (row_at collection id rows) in
      let made_eq : filter_map (made one.rows) (ids_of parts) ≡ filter_map (made other.rows) (ids_of parts) =
      λ i. filter_map (λ id. put_all collection (parts_of id parts) time (row_eq collection id i)) (ids_of parts) in
      stamped_at collection time (rows_written collection parts time one.rows) (rows_written collection parts time other.rows)
      (subst (λ more. IsReordering (rows_without collection (ids_of parts) one.rows ++ filter_map (made one.rows) (ids_of parts)) (rows_without collection (ids_of parts) other.rows ++ more)) made_eq
      (reordered-append_right (filter_map (made one.rows) (ids_of parts)) (reordered-filter (λ row. not (bytes_eq row.collection collection && is_among (ids_of parts) row.id)) s.rows)))

  write_same : (collection : List ℕ) (parts : List Part) → SameAccount (write one collection parts (stamp_in one)) (write other collection parts (stamp_in other))
  write_same collection parts = subst (λ time. SameAccount (write one collection parts (stamp_in one)) (write other collection parts time)) stamp_eq (write_at collection parts (stamp_in one))

  without_same : (collection : List ℕ) (ids : List (List ℕ)) → SameAccount (account_after_write one collection (stamp_in one) (rows_without collection ids one.rows)) (account_after_write other collection (stamp_in other) (rows_without collection ids other.rows))
  without_same collection ids =
      subst (λ time. SameAccount (account_after_write one collection (stamp_in one) (rows_without collection ids one.rows)) (account_after_write other collection time (rows_without collection ids other.rows))) stamp_eq
      (stamped_at collection (stamp_in one) (rows_without collection ids one.rows) (rows_without collection ids other.rows)
      (reordered-filter (λ row. not (bytes_eq row.collection collection && is_among ids row.id)) s.rows))

  write_some_at : (collection : List ℕ) (parts : List Part) → SameAccount (write_some one collection parts) (write_some other collection parts)
  write_some_at collection [] = s
  write_some_at collection (part ∷ parts) = write_same collection (part ∷ parts)

  batches_same : (collection : List ℕ) (parts : List Part) (mode : Mode) → IsReordering (batches_after one collection parts mode) (batches_after other collection parts mode)
  batches_same collection parts PlainPost = s.batches
  batches_same collection parts Begin =
      let new : ℕ → ℕ → Staged = λ counter moment. record { number = counter + 1; collection = collection; begun = moment; parts = parts } in
      let new_eq : new one.counter one.moment ≡ new other.counter other.moment = λ i. new (s.counter i) (s.moment i) in
      subst (λ batch. IsReordering (one.batches ++ new one.counter one.moment ∷ []) (other.batches ++ batch ∷ [])) new_eq (reordered-append_right (new one.counter one.moment ∷ []) s.batches)
  batches_same collection parts (Append number) = reordered-map (grown number parts) s.batches
  batches_same collection parts (Commit number) = reordered-filter (λ batch. not (batch.number == number)) s.batches

  counter_same : (mode : Mode) → counter_after one mode ≡ counter_after other mode
  counter_same PlainPost = s.counter
  counter_same Begin = ap (λ counter. counter + 1) s.counter
  counter_same (Append number) = s.counter
  counter_same (Commit number) = s.counter

  post_same : (collection : List ℕ) (records : Records) (mode : Mode) (condition : Cond) → SameAccount (effect one (Post collection records mode condition)) (effect other (Post collection records mode condition))
  post_same collection records mode condition =
      let w : SameAccount (write_some one collection (parts_to_put one collection records.parts mode)) (write_some other collection (parts_to_put other collection records.parts mode)) =
      subst (λ parts. SameAccount (write_some one collection (parts_to_put one collection records.parts mode)) (write_some other collection parts)) (put_eq collection records.parts mode) (write_some_at collection (parts_to_put one collection records.parts mode)) in
      record {
        rows = w.rows;
        collections = w.collections;
        batches = batches_same collection records.parts mode;
        store = w.store;
        last_delete = w.last_delete;
        moment = w.moment;
        counter = counter_same mode;
      }

  cond_same : (a : Bool) (x u : Plain) → SameAccount x u → SameAccount (cond a x one) (cond a u other)
  cond_same true x u r = r
  cond_same false x u r = s

  effect_same : (request : Request) → SameAccount (effect one request) (effect other request)
  effect_same (Info what condition) = s
  effect_same (DeleteAll condition) = record { rows = nothing; collections = nothing; batches = nothing; store = stamp_eq; last_delete = stamp_eq; moment = stamp_eq; counter = s.counter }
  effect_same (ListOf collection query condition) = s
  effect_same (Post collection records mode condition) = post_same collection records mode condition
  effect_same (DeleteCollection collection condition) = record {
    rows = reordered-filter (λ row. not (bytes_eq row.collection collection)) s.rows;
    collections = reordered-filter (λ (entry : List ℕ × ℕ). not (bytes_eq entry.0 collection)) s.collections;
    batches = reordered-filter (λ batch. not (bytes_eq batch.collection collection)) s.batches;
    store = stamp_eq;
    last_delete = stamp_eq;
    moment = stamp_eq;
    counter = s.counter;
  }
  effect_same (DeleteIds collection ids condition) =
      let x : Plain = account_after_write one collection (stamp_in one) (rows_without collection ids one.rows) in
      let u : Plain = account_after_write other collection (stamp_in other) (rows_without collection ids other.rows) in
      subst (λ found. SameAccount (cond (is_some (time_of collection one.collections)) x one) (cond (is_some found) u other)) (time_eq collection)
      (cond_same (is_some (time_of collection one.collections)) x u (without_same collection ids))
  effect_same (Get collection id condition) = s
  effect_same (Put collection id fields condition) = write_same collection (record { id = id; fields = fields } ∷ [])
  effect_same (Delete collection id condition) = without_same collection (id ∷ [])

  -- the refusal
  over_eq : (request : Request) → is_over (effect one request) ≡ is_over (effect other request)
  over_eq request =
      let e = effect_same request in
      λ i. nat_lt most_account_payload_bytes (sum_by-reordered (λ (row : Row). length row.payload) e.rows i) || nat_lt most_rows_and_collections (length-reordered e.rows i + length-reordered e.collections i)

  misses_item_eq : (request : Request) → misses_item one request ≡ misses_item other request
  misses_item_eq (Info what condition) = refl
  misses_item_eq (DeleteAll condition) = refl
  misses_item_eq (ListOf collection query condition) = refl
  misses_item_eq (Post collection records mode condition) = refl
  misses_item_eq (DeleteCollection collection condition) = refl
  misses_item_eq (DeleteIds collection ids condition) = refl
  misses_item_eq (Get collection id condition) = ap is_none (row_eq collection id)
  misses_item_eq (Put collection id fields condition) = refl
  misses_item_eq (Delete collection id condition) = ap is_none (row_eq collection id)

  lacks_room_eq : (request : Request) → lacks_room one request ≡ lacks_room other request
  lacks_room_eq (Info what condition) = refl
  lacks_room_eq (DeleteAll condition) = refl
  lacks_room_eq (ListOf collection query condition) = refl
  lacks_room_eq (Post collection records mode condition) = λ i. begins mode && (nat_le most_live_batches (length-reordered s.batches i) || nat_le last_stamp (s.counter i))
  lacks_room_eq (DeleteCollection collection condition) = refl
  lacks_room_eq (DeleteIds collection ids condition) = refl
  lacks_room_eq (Get collection id condition) = refl
  lacks_room_eq (Put collection id fields condition) = refl
  lacks_room_eq (Delete collection id condition) = refl

  misses_batch_eq : (request : Request) → misses_batch one request ≡ misses_batch other request
  misses_batch_eq (Info what condition) = refl
  misses_batch_eq (DeleteAll condition) = refl
  misses_batch_eq (ListOf collection query condition) = refl
  misses_batch_eq (Post collection records mode condition) = λ i. option_map_or (λ number. is_none (batch_eq collection number i)) (continued_batch mode) false
  misses_batch_eq (DeleteCollection collection condition) = refl
  misses_batch_eq (DeleteIds collection ids condition) = refl
  misses_batch_eq (Get collection id condition) = refl
  misses_batch_eq (Put collection id fields condition) = refl
  misses_batch_eq (Delete collection id condition) = refl

  overfills_eq : (request : Request) → overfills_batch one request ≡ overfills_batch other request
  overfills_eq (Info what condition) = refl
  overfills_eq (DeleteAll condition) = refl
  overfills_eq (ListOf collection query condition) = refl
  overfills_eq (Post collection records mode condition) = λ i. option_map_or (λ number. not (fit (staged_eq collection number i ++ records.parts))) (continued_batch mode) false
  overfills_eq (DeleteCollection collection condition) = refl
  overfills_eq (DeleteIds collection ids condition) = refl
  overfills_eq (Get collection id condition) = refl
  overfills_eq (Put collection id fields condition) = refl
  overfills_eq (Delete collection id condition) = refl

  refusal_eq : (request : Request) → refusal one request ≡ refusal other request
  refusal_eq request = λ i. first_some (
      where_so (misses_item_eq request i) NoItem
      ∷ option_map why_stopped (stops (condition_of request) (there_eq request i) (target_eq request i))
      ∷ where_so (lacks_room_eq request i) NoMoreBatches
      ∷ where_so (misses_batch_eq request i) NoBatch
      ∷ where_so (overfills_eq request i) BatchFull
      ∷ where_so (writes_eq request i && nat_le last_stamp (s.store i)) ClockEnded
      ∷ where_so (writes_eq request i && over_eq request i) AccountFull
      ∷ [])

  -- the reply
  time_told_eq : (request : Request) → time_told one request ≡ time_told other request
  time_told_eq request = λ i. cond (writes_eq request i) (stamp_eq i) (target_eq request i)

  names_eq : by_name one.collections ≡ by_name other.collections
  names_eq = by_name-reordered one.collections other.collections s.collections k.names

  info_eq : (what : InfoKind) → info_body one what ≡ info_body other what
  info_eq Collections = ap Times names_eq
  info_eq Counts = λ i. CountsBody (map (λ (entry : List ℕ × ℕ). (entry.0, length-reordered (reordered-filter (λ row. bytes_eq row.collection entry.0) s.rows) i)) (names_eq i))
  info_eq Usage = λ i. UsageBody (map (λ (entry : List ℕ × ℕ). (entry.0, sum_by-reordered (λ (row : Row). length row.payload) (reordered-filter (λ row. bytes_eq row.collection entry.0) s.rows) i)) (names_eq i))
  info_eq Quota = ap QuotaBody (sum_by-reordered (λ (row : Row). length row.payload) s.rows)
  info_eq Configuration = refl

  picked_eq : (collection : List ℕ) (query : Query) → picked_rows one collection query ≡ picked_rows other collection query
  picked_eq collection query =
      answer-reordered (rows_of collection one.rows) (rows_of collection other.rows) query (reordered-filter (λ row. bytes_eq row.collection collection) s.rows) (ids_distinct collection one.rows k.places)

  post_body_eq : (records : Records) (mode : Mode) (time : ℕ) → post_body one records mode time ≡ post_body other records mode time
  post_body_eq records PlainPost time = refl
  post_body_eq records Begin time = λ i. StagedBody (s.counter i + 1) (ids_of records.parts) (first_failures records.failed)
  post_body_eq records (Append number) time = refl
  post_body_eq records (Commit number) time = refl

  body_eq : (request : Request) (time : ℕ) → body_of one request time ≡ body_of other request time
  body_eq (Info what condition) time = info_eq what
  body_eq (DeleteAll condition) time = refl
  body_eq (ListOf collection query condition) time = ap (λ (found : Picked). rows_body query.full found.rows) (picked_eq collection query)
  body_eq (Post collection records mode condition) time = post_body_eq records mode time
  body_eq (DeleteCollection collection condition) time = refl
  body_eq (DeleteIds collection ids condition) time = refl
  body_eq (Get collection id condition) time = ap (λ (found : Option Row). option_map_or (λ (row : Row). One row) found Empty) (row_eq collection id)
  body_eq (Put collection id fields condition) time = refl
  body_eq (Delete collection id condition) time = refl

  count_eq : (request : Request) → count_of one request ≡ count_of other request
  count_eq (Info what condition) = refl
  count_eq (DeleteAll condition) = refl
  count_eq (ListOf collection query condition) = ap (λ (found : Picked). Some (length found.rows)) (picked_eq collection query)
  count_eq (Post collection records mode condition) = refl
  count_eq (DeleteCollection collection condition) = refl
  count_eq (DeleteIds collection ids condition) = refl
  count_eq (Get collection id condition) = refl
  count_eq (Put collection id fields condition) = refl
  count_eq (Delete collection id condition) = refl

  next_eq : (request : Request) → next_of one request ≡ next_of other request
  next_eq (Info what condition) = refl
  next_eq (DeleteAll condition) = refl
  next_eq (ListOf collection query condition) = ap (λ (found : Picked). found.next) (picked_eq collection query)
  next_eq (Post collection records mode condition) = refl
  next_eq (DeleteCollection collection condition) = refl
  next_eq (DeleteIds collection ids condition) = refl
  next_eq (Get collection id condition) = refl
  next_eq (Put collection id fields condition) = refl
  next_eq (Delete collection id condition) = refl

  turned_same : (request : Request) (why : Option Refusal) → SameOutcome (outcome one request why) (outcome other request why)
  turned_same request (Some why) = record {
    account = s;
    reply = λ i. record { status = status_of why; moment = s.moment i; modified = time_shown why (target_eq request i); count = None; next = None; body = said_by why };
  }
  turned_same request None = record {
    account = effect_same request;
    reply = λ i. record {
      status = ok_status request;
      moment = (effect_same request).moment i;
      modified = Some (time_told_eq request i);
      count = count_eq request i;
      next = next_eq request i;
      body = (body_eq request (time_told one request) ∙ ap (λ time. body_of other request time) (time_told_eq request)) i;
    };
  }

  turn_same : (request : Request) → SameOutcome (outcome one request (refusal one request)) (outcome other request (refusal other request))
  turn_same request = subst (λ why. SameOutcome (outcome one request (refusal one request)) (outcome other request why)) (refusal_eq request) (turned_same request (refusal one request))

pub order_law : (account other : Plain) (now : ℕ) (request : Request) → IsValid account → SameAccount account other → SameOutcome (api account now request) (api other now request)
order_law account other now request valid same =
    turn_same (tick account now) (tick other now) (tick-same account other now same) (tick-keyed account now (keyed_from account valid)) request
