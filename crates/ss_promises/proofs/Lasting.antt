-- Accounts keep the values of their types.
use Rattle.std.specs.Prelude.{◌≡◌, ℕ, ℤ, ◌^◌, ◌<◌, ◌≤◌, Bool, true, false, ◌==◌, cond, List, [], ◌∷◌, ◌++◌, bytes_eq}
use Rattle.std.specs.Prelude.{filter_map, Option, Some, None, IfSome, IsSomeAnd, is_some, unwrap_or, refl}
use Rattle.std.specs.Option.{option_map_or}
use Rattle.std.specs.Int.Signed.{mag}
use Rattle.std.specs.Str.{IsUtf8}
use Rattle.std.proofs.Common.{sym, subst, arith}
use Rattle.ss_text.specs.Names.{is_id}
use Rattle.ss_text.specs.Time.{last_stamp}
use Rattle.ss_bso.specs.declared.rows.Row.{Row}
use Rattle.ss_bso.specs.declared.account.Plain.{Plain}
use Rattle.ss_bso.specs.declared.account.Staged.{Staged}
use Rattle.ss_bso.specs.declared.parts.Field.{Field}
use Rattle.ss_bso.specs.declared.parts.Field.TheVariants.{Keep, Clear, Set}
use Rattle.ss_bso.specs.declared.parts.Part.{Part}
use Rattle.ss_bso.specs.Account.{row_at, tick, time_of}
use Rattle.ss_bso.specs.Batches.{batch_in, grown}
use Rattle.ss_bso.specs.Lists.{Each}
use Rattle.ss_bso.specs.Put.{field_value, row_after_put}
use Rattle.ss_bso.specs.Validity.{IsValid}
use Rattle.ss_bso.specs.Write.{ids_of, parts_of, put_all, rows_without, rows_written, account_after_write}
use Rattle.ss_bso.proofs.Lists.{All-from_Each, Each-and, Each-any, Each-append, Each-filter, Each-filter_map, Each-find}
use Rattle.ss_bso.proofs.Lists.{Each-from_All, Each-imp, Each-map}
use Rattle.ss_query.specs.declared.requests.Mode.{Mode}
use Rattle.ss_query.specs.declared.requests.Mode.TheVariants.{Plain as PlainPost, Begin, Append, Commit}
use Rattle.ss_query.specs.declared.requests.Request.{Request}
use Rattle.ss_query.specs.declared.requests.Request.TheVariants.{Info, DeleteAll, List as ListOf, Post}
use Rattle.ss_query.specs.declared.requests.Request.TheVariants.{DeleteCollection, DeleteIds, Put, Get as GetItem}
use Rattle.ss_query.specs.declared.requests.Request.TheVariants.{Delete as DeleteItem}
use Rattle.ss_query.specs.Fit.{IsFitRequest}
use Rattle.ss_query.specs.Refused.{Refusal, collection_time, staged_parts}
use Rattle.ss_query.specs.Effect.{batches_after, effect, parts_to_put, stamp_in, write_some}
use Rattle.ss_query.specs.Api.{api, outcome, refusal}
use Rattle.ss_laws.proofs.Times.{item_below}
use Rattle.ss_laws.proofs.Valid.{valid-api, valid-tick}
use Rattle.ss_laws.proofs.Written.{made}
use Rattle.ss_bso.specs.Put.{payload_set}
use Rattle.ss_serving.specs.Bookmarks.{bookmarks}
use Rattle.ss_serving.specs.Typed.{IsTypedRow}
use Rattle.ss_promises.specs.Values.{IsTypedAccount, IsTypedAsk, IsTypedBatch, IsTypedIndex, IsTypedRecord, StaysTyped}

-- a row but for its time
record IsText (row : Row) : Type 0 where
  id : is_id row.id ≡ true
  payload : IsUtf8 row.payload
  sortindex : IfSome row.sortindex (λ index. mag index < 2 ^ 31)

text_of : (row : Row) → IsTypedRow row → IsText row
text_of row r = record { id = r.id; payload = r.payload; sortindex = r.sortindex }

abbrev OnText : Option Row → Type 0
OnText None = Unit {0}
OnText (Some row) = IsText row

-- ---- puts

payload_put : (field : Field (List ℕ)) (old : List ℕ) → IsUtf8 old → IsUtf8 (payload_set field) → IsUtf8 (field_value field old [] (λ text. text))
payload_put Keep old o new = o
payload_put Clear old o new = new
payload_put (Set text) old o new = new

index_put : (field : Field ℤ) (old : Option ℤ) → IfSome old (λ index. mag index < 2 ^ 31) → IsTypedIndex field → IfSome (field_value field old None (λ index. Some index)) (λ index. mag index < 2 ^ 31)
index_put Keep old o new = o
index_put Clear old o new = tt
index_put (Set index) old o new = new

put_text : (collection : List ℕ) (time : ℕ) (part : Part) (old : Option Row) → IsTypedRecord part → OnText old → OnText (Some (row_after_put old collection part time))
put_text collection time part None p o = record { id = p.form; payload = payload_put part.fields.payload [] ([], (refl, refl)) p.text; sortindex = index_put part.fields.sortindex None tt p.index }
put_text collection time part (Some row) p o = record { id = p.form; payload = payload_put part.fields.payload row.payload o.payload p.text; sortindex = index_put part.fields.sortindex row.sortindex o.sortindex p.index }

put_all_text : (collection : List ℕ) (time : ℕ) (parts : List Part) (old : Option Row) → Each IsTypedRecord parts → OnText old → OnText (put_all collection parts time old)
put_all_text collection time [] old p o = o
put_all_text collection time (part ∷ parts) old p o = put_all_text collection time parts (Some (row_after_put old collection part time)) p.1 (put_text collection time part old p.0 o)

at_text : (collection id : List ℕ) (rows : List Row) → Each IsText rows → OnText (row_at collection id rows)
at_text collection id rows all = by (row_at collection id rows) refl
  where
    by : (o : Option Row) → row_at collection id rows ≡ o → OnText o
    by None e = tt
    by (Some row) e = Each-find IsText _ rows row e all

made_text : (collection : List ℕ) (parts : List Part) (time : ℕ) (rows : List Row) → Each IsText rows → Each IsTypedRecord parts → (id : List ℕ) (row : Row) → made collection parts time rows id ≡ Some row → IsText row
made_text collection parts time rows all typed id row e =
    subst OnText e (put_all_text collection time (parts_of id parts) (row_at collection id rows) (Each-filter IsTypedRecord (λ part. bytes_eq part.id id) parts typed) (at_text collection id rows all))

written_text : (collection : List ℕ) (parts : List Part) (time : ℕ) (rows : List Row) → Each IsText rows → Each IsTypedRecord parts → Each IsText (rows_written collection parts time rows)
written_text collection parts time rows all typed =
    Each-append IsText (rows_without collection (ids_of parts) rows) (filter_map (made collection parts time rows) (ids_of parts)) (Each-filter IsText _ rows all)
    (Each-filter_map (λ (id : List ℕ). Unit {0}) IsText (made collection parts time rows) (λ id row _ e. made_text collection parts time rows all typed id row e) (ids_of parts) (Each-any (ids_of parts)))

-- ---- batches

abbrev EachTyped : Staged → Type 0
EachTyped batch = Each IsTypedRecord batch.parts

staged_typed : (account : Plain) (collection : List ℕ) (number : ℕ) → Each EachTyped account.batches → Each IsTypedRecord (staged_parts account collection number)
staged_typed account collection number all = by (batch_in collection number account.batches) refl
  where
    by : (o : Option Staged) → batch_in collection number account.batches ≡ o → Each IsTypedRecord (option_map_or (λ batch. batch.parts) o [])
    by None e = tt
    by (Some batch) e = Each-find EachTyped _ account.batches batch e all

grown_typed : (number : ℕ) (parts : List Part) → Each IsTypedRecord parts → (batch : Staged) → EachTyped batch → EachTyped (grown number parts batch)
grown_typed number parts new batch old = by (batch.number == number)
  where
    by : (b : Bool) → EachTyped (cond b (record batch { parts = batch.parts ++ parts }) batch)
    by true = Each-append IsTypedRecord batch.parts parts old new
    by false = old

-- ---- an account, but for its times

record IsHeld (account : Plain) : Type 0 where
  rows : Each IsText account.rows
  batches : Each EachTyped account.batches

some_text : (account : Plain) (collection : List ℕ) (parts : List Part) → Each IsText account.rows → Each IsTypedRecord parts → Each IsText (write_some account collection parts).rows
some_text account collection [] all typed = all
some_text account collection (part ∷ parts) all typed = written_text collection (part ∷ parts) (stamp_in account) account.rows all typed

to_put : (account : Plain) (collection : List ℕ) (parts : List Part) (mode : Mode) → IsHeld account → Each IsTypedRecord parts → Each IsTypedRecord (parts_to_put account collection parts mode)
to_put account collection parts PlainPost h typed = typed
to_put account collection parts Begin h typed = tt
to_put account collection parts (Append number) h typed = tt
to_put account collection parts (Commit number) h typed = Each-append IsTypedRecord (staged_parts account collection number) parts (staged_typed account collection number h.batches) typed

after_post : (account : Plain) (collection : List ℕ) (parts : List Part) (mode : Mode) → IsHeld account → Each IsTypedRecord parts → Each EachTyped (batches_after account collection parts mode)
after_post account collection parts PlainPost h typed = h.batches
after_post account collection parts Begin h typed = Each-append EachTyped account.batches _ h.batches (typed, tt)
after_post account collection parts (Append number) h typed = Each-map EachTyped EachTyped (grown number parts) (λ batch old. grown_typed number parts typed batch old) account.batches h.batches
after_post account collection parts (Commit number) h typed = Each-filter EachTyped _ account.batches h.batches

effect_held : (account : Plain) (q : Request) → IsHeld account → IsTypedAsk q → IsHeld (effect account q)
effect_held account (Info what x) h a = h
effect_held account (DeleteAll x) h a = record { rows = tt; batches = tt }
effect_held account (ListOf collection query x) h a = h
effect_held account (Post collection records mode x) h a =
    let typed = Each-from_All IsTypedRecord records.parts a in
    record {
      rows = some_text account collection (parts_to_put account collection records.parts mode) h.rows (to_put account collection records.parts mode h typed);
      batches = after_post account collection records.parts mode h typed;
    }
effect_held account (DeleteCollection collection x) h a = record { rows = Each-filter IsText _ account.rows h.rows; batches = Each-filter EachTyped _ account.batches h.batches }
effect_held account (DeleteIds collection ids x) h a = by (is_some (time_of collection account.collections)) (effect account (DeleteIds collection ids x)) refl
  where
    by : (there : Bool) (b : Plain) → b ≡ cond there (account_after_write account collection (stamp_in account) (rows_without collection ids account.rows)) account → IsHeld b
    by true b e = subst IsHeld (sym e) (record { rows = Each-filter IsText _ account.rows h.rows; batches = h.batches })
    by false b e = subst IsHeld (sym e) h
effect_held account (GetItem collection id x) h a = h
effect_held account (Put collection id fields x) h a = record { rows = written_text collection (record { id = id; fields = fields } ∷ []) (stamp_in account) account.rows h.rows (a, tt); batches = h.batches }
effect_held account (DeleteItem collection id x) h a = record { rows = Each-filter IsText _ account.rows h.rows; batches = h.batches }

outcome_held : (account : Plain) (q : Request) (why : Option Refusal) → IsHeld account → IsTypedAsk q → IsHeld (outcome account q why).account
outcome_held account q None h a = effect_held account q h a
outcome_held account q (Some why) h a = h

-- ---- times

-- the time of the last deletion is the one before, or the store's
deleted_low : (account : Plain) (q : Request) → account.last_delete ≤ last_stamp → (effect account q).store ≤ last_stamp → (effect account q).last_delete ≤ last_stamp
deleted_low account (Info what x) low store = low
deleted_low account (DeleteAll x) low store = store
deleted_low account (ListOf collection query x) low store = low
deleted_low account (Post collection records mode x) low store = by (parts_to_put account collection records.parts mode)
  where
    by : (parts : List Part) → (write_some account collection parts).last_delete ≤ last_stamp
    by [] = low
    by (part ∷ parts) = low
deleted_low account (DeleteCollection collection x) low store = store
deleted_low account (DeleteIds collection ids x) low store = by (is_some (time_of collection account.collections))
  where
    by : (there : Bool) → (cond there (account_after_write account collection (stamp_in account) (rows_without collection ids account.rows)) account).last_delete ≤ last_stamp
    by true = low
    by false = low
deleted_low account (GetItem collection id x) low store = low
deleted_low account (Put collection id fields x) low store = low
deleted_low account (DeleteItem collection id x) low store = low

outcome_deleted : (account : Plain) (q : Request) (why : Option Refusal) → account.last_delete ≤ last_stamp → (outcome account q why).account.store ≤ last_stamp → (outcome account q why).account.last_delete ≤ last_stamp
outcome_deleted account q None low store = deleted_low account q low store
outcome_deleted account q (Some why) low store = low

store_low : (account : Plain) → IsValid account → account.store ≤ last_stamp
store_low account v = let one : account.store ≤ account.moment = v.store in let two : account.moment ≤ last_stamp = v.moment in omega (arith, one, two)

-- a row of a valid account has a time
abbrev IsItem : Plain → Row → Type 0
IsItem account row = IsSomeAnd (time_of row.collection account.collections) (λ time. row.modified ≤ time)

timed : (account : Plain) → IsValid account → (row : Row) → IsText row × IsItem account row → IsTypedRow row
timed account v row h =
    let low : row.modified ≤ account.store = item_below account.collections row.collection row.modified account.store (Each-from_All (λ (entry : List ℕ × ℕ). entry.1 ≤ account.store) account.collections v.times) h.1 in
    record { id = h.0.id; modified = omega (arith, low, store_low account v); payload = h.0.payload; sortindex = h.0.sortindex }

held_typed : (account : Plain) → IsValid account → account.last_delete ≤ last_stamp → IsHeld account → StaysTyped account
held_typed account v deleted h = record {
  valid = v;
  deleted = deleted;
  rows = All-from_Each IsTypedRow account.rows
      (Each-imp (λ (row : Row). IsText row × IsItem account row) IsTypedRow (timed account v) account.rows (Each-and IsText (IsItem account) account.rows h.rows (Each-from_All (IsItem account) account.rows v.items)));
  batches = All-from_Each IsTypedBatch account.batches (Each-imp EachTyped IsTypedBatch (λ batch e. All-from_Each IsTypedRecord batch.parts e) account.batches h.batches);
}

held_of : (account : Plain) → StaysTyped account → IsHeld account
held_of account s = record {
  rows = Each-imp IsTypedRow IsText text_of account.rows (Each-from_All IsTypedRow account.rows s.rows);
  batches = Each-imp IsTypedBatch EachTyped (λ batch a. Each-from_All IsTypedRecord batch.parts a) account.batches (Each-from_All IsTypedBatch account.batches s.batches);
}

tick_held : (account : Plain) (now : ℕ) → IsHeld account → IsHeld (tick account now)
tick_held account now h = record { rows = Each-filter IsText _ account.rows h.rows; batches = Each-filter EachTyped _ account.batches h.batches }

-- ---- what stays

pub ticked_typed : (account : Plain) (now : ℕ) → StaysTyped account → StaysTyped (tick account now)
ticked_typed account now s = held_typed (tick account now) (valid-tick account now s.valid) s.deleted (tick_held account now (held_of account s))

pub answered_typed : (account : Plain) (now : ℕ) (q : Request) → StaysTyped account → IsFitRequest q → IsTypedAsk q → StaysTyped (api account now q).account
answered_typed account now q s fit a =
    let t : Plain = tick account now in
    let v : IsValid (api account now q).account = valid-api account now q s.valid fit in
    held_typed (api account now q).account v (outcome_deleted t q (refusal t q) s.deleted (store_low (api account now q).account v)) (outcome_held t q (refusal t q) (tick_held account now (held_of account s)) a)

-- the time of the bookmarks is one
time_below : (account : Plain) → IsValid account → account.last_delete ≤ last_stamp → collection_time account bookmarks ≤ last_stamp
time_below account v deleted = by (time_of bookmarks account.collections) refl
  where
    by : (o : Option ℕ) → time_of bookmarks account.collections ≡ o → unwrap_or o account.last_delete ≤ last_stamp
    by None e = deleted
    by (Some time) e =
        let low : time ≤ account.store = item_below account.collections bookmarks time account.store (Each-from_All (λ (entry : List ℕ × ℕ). entry.1 ≤ account.store) account.collections v.times) (subst (λ (o : Option ℕ). IsSomeAnd o (λ t. time ≤ t)) (sym e) (omega arith)) in
        omega (arith, low, store_low account v)

pub stays_typed : (account : Plain) → StaysTyped account → IsTypedAccount account
stays_typed account s = record { valid = s.valid; time = time_below account s.valid s.deleted; rows = s.rows }
