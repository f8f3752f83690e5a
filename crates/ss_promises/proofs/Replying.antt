-- The numbers and texts of the replies to what a machine asks are those of their types.
use Rattle.std.specs.Prelude.{◌≡◌, ℕ, ◌+◌, ◌^◌, ◌<◌, ◌≤◌, Bool, true, false, ◌&&◌, ◌||◌, cond, nat_le, nat_lt, List, []}
use Rattle.std.specs.Prelude.{◌∷◌, bytes_eq, length, map, drop, filter, Option, Some, None, IfSome, All, refl}
use Rattle.std.proofs.Common.{sym, subst, ◌∙◌, arith, length-drop, length-take}
use Rattle.std.proofs.lemmas.Bool.Decides.{nat_tests}
use Rattle.std.proofs.lemmas.List.Elements.{All-drop, All-take}
use Rattle.ss_text.specs.declared.stamps.Cond.{Cond}
use Rattle.ss_text.specs.Names.{is_id}
use Rattle.ss_text.specs.Time.{after, last_stamp}
use Rattle.ss_text.specs.Texts.{once_by, sorted}
use Rattle.ss_text.proofs.Basics.{length-filter_le, neither_right}
use Rattle.ss_bso.specs.declared.rows.Row.{Row}
use Rattle.ss_bso.specs.declared.account.Plain.{Plain}
use Rattle.ss_bso.specs.declared.parts.Part.{Part}
use Rattle.ss_bso.specs.declared.parts.Records.{Records}
use Rattle.ss_bso.specs.declared.parts.Reason.{Reason}
use Rattle.ss_bso.specs.Account.{is_alive, tick}
use Rattle.ss_bso.specs.Limits.{most_live_batches, most_rows_and_collections, rows_of}
use Rattle.ss_bso.specs.Lists.{Each}
use Rattle.ss_bso.specs.Write.{ids_of}
use Rattle.ss_bso.proofs.Lists.{All-from_Each, Each-filter, Each-from_All, Each-map}
use Rattle.ss_bso.proofs.Reordering.{Each-reordered, length-reordered}
use Rattle.ss_query.specs.declared.requests.Info.{Info as InfoKind}
use Rattle.ss_query.specs.declared.requests.Info.TheVariants.{Configuration}
use Rattle.ss_query.specs.declared.requests.Mode.{Mode}
use Rattle.ss_query.specs.declared.requests.Mode.TheVariants.{Plain as PlainPost, Begin, Append, Commit}
use Rattle.ss_query.specs.declared.requests.Query.{Query}
use Rattle.ss_query.specs.declared.requests.Request.{Request}
use Rattle.ss_query.specs.declared.requests.Request.TheVariants.{Info, DeleteAll, List as ListOf, Post}
use Rattle.ss_query.specs.declared.requests.Request.TheVariants.{DeleteCollection, DeleteIds, Put, Get as GetItem}
use Rattle.ss_query.specs.declared.requests.Request.TheVariants.{Delete as DeleteItem}
use Rattle.ss_query.specs.Answer.{answer, comes_before, is_asked, limited_list, next_offset}
use Rattle.ss_query.specs.Fit.{IsFitRequest}
use Rattle.ss_query.specs.Refused.{Refusal, NoItem, NotModified, WasModified, NoMoreBatches, NoBatch, BatchFull}
use Rattle.ss_query.specs.Refused.{ClockEnded, AccountFull, collection_time, said_by, target_time, time_shown}
use Rattle.ss_query.specs.Effect.{is_write, stamp_in}
use Rattle.ss_query.specs.Told.{body_of, count_of, first_failures, info_body, next_of, post_body, rows_body}
use Rattle.ss_query.specs.Api.{api, outcome, refusal, time_told}
use Rattle.ss_laws.proofs.Commit.{Passes, passes}
use Rattle.ss_laws.proofs.CommitLaw.{clock_from}
use Rattle.ss_laws.proofs.InOrder.{reordered-sorted}
use Rattle.ss_laws.proofs.Valid.{valid-api, valid-tick}
use Rattle.ss_route.specs.Sending.{IsReadable, IsSentRequest, HasTypes}
use Rattle.ss_route.specs.Wire.{IsReply}
use Rattle.ss_serving.specs.Bookmarks.{bookmarks}
use Rattle.ss_serving.specs.Typed.{AreIds, HaveIds, IsTypedReply, IsTypedBody, IsTypedRow}
use Rattle.ss_serving.proofs.Posting.{room_in}
use Rattle.ss_promises.specs.Values.{IsTypedAccount, IsTypedPart}

-- ---- lists

nothing : {X : Type 0} (P : X → Type 0) → All P []
nothing P = λ k d h. absurd (omega arith)

limited_all : {X : Type 0} (P : X → Type 0) (limit : Option ℕ) (xs : List X) → All P xs → All P (limited_list limit xs)
limited_all P None xs h = h
limited_all P (Some limit) xs h = All-take P limit xs h

limited_few : {X : Type 0} (limit : Option ℕ) (xs : List X) → length (limited_list limit xs) ≤ length xs
limited_few None xs = omega arith
limited_few (Some limit) xs = omega (arith, length-take limit xs)

once_each : {X : Type 0} (key : X → List ℕ) (P : X → Type 0) (xs : List X) → Each P xs → Each P (once_by key xs)
once_each key P [] e = tt
once_each key P (x ∷ xs) e = (e.0, Each-filter P _ (once_by key xs) (once_each key P xs e.1))

next_small : (limit : Option ℕ) (offset count : ℕ) → count ≤ most_rows_and_collections → IfSome (next_offset limit offset count) (λ k. k < 2 ^ 64)
next_small None offset count few = tt
next_small (Some limit) offset count few = by (nat_lt (offset + limit) count) refl
  where
    by : (b : Bool) → nat_lt (offset + limit) count ≡ b → IfSome (cond b (Some (offset + limit)) None) (λ k. k < 2 ^ 64)
    by true t = let low : offset + limit < count = grind (arith, nat_tests) in omega (arith, low, few)
    by false t = tt

-- ---- refusals

why_typed : (why : Refusal) → IsTypedBody (said_by why)
why_typed NoItem = tt
why_typed NotModified = tt
why_typed WasModified = tt
why_typed NoMoreBatches = tt
why_typed NoBatch = tt
why_typed BatchFull = tt
why_typed ClockEnded = tt
why_typed AccountFull = tt

why_time : (why : Refusal) (time : ℕ) → time ≤ last_stamp → IfSome (time_shown why time) (λ t. t ≤ last_stamp)
why_time NoItem time low = tt
why_time NotModified time low = low
why_time WasModified time low = low
why_time NoMoreBatches time low = tt
why_time NoBatch time low = tt
why_time BatchFull time low = tt
why_time ClockEnded time low = tt
why_time AccountFull time low = tt

-- ---- an account at a moment

module _ (t : Plain) (a : IsTypedAccount t) where
  few_rows : length t.rows ≤ most_rows_and_collections
  few_rows = room_in t a.valid.limits

  -- times
  store_low : t.store ≤ last_stamp
  store_low = let one : t.store ≤ t.moment = a.valid.store in let two : t.moment ≤ last_stamp = a.valid.moment in omega (arith, one, two)

  target_low : (q : Request) → IsSentRequest q → target_time t q ≤ last_stamp
  target_low (Info what x) s = store_low
  target_low (ListOf collection query x) s = subst (λ c. collection_time t c ≤ last_stamp) (sym s.0) a.time
  target_low (Post collection records mode x) s = subst (λ c. collection_time t c ≤ last_stamp) (sym s.0) a.time
  target_low (DeleteAll x) s = absurd s
  target_low (DeleteCollection collection x) s = absurd s
  target_low (DeleteIds collection ids x) s = absurd s
  target_low (GetItem collection id x) s = absurd s
  target_low (Put collection id fields x) s = absurd s
  target_low (DeleteItem collection id x) s = absurd s

  time_low : (q : Request) → IsSentRequest q → Passes t q → time_told t q ≤ last_stamp
  time_low q s p = by (is_write t q) refl
    where
      by : (b : Bool) → is_write t q ≡ b → cond b (stamp_in t) (target_time t q) ≤ last_stamp
      by true w = let below : t.store < last_stamp = clock_from (is_write t q) t.store p.clock w in let moment : t.moment ≤ last_stamp = a.valid.moment in omega (arith, below, moment)
      by false w = target_low q s

  -- rows
  each_typed : (query : Query) → Each IsTypedRow (sorted (comes_before query.sort) (filter (is_asked query) (rows_of bookmarks t.rows)))
  each_typed query =
      Each-reordered IsTypedRow (reordered-sorted (comes_before query.sort) (filter (is_asked query) (rows_of bookmarks t.rows)))
      (Each-filter IsTypedRow (is_asked query) (rows_of bookmarks t.rows) (Each-filter IsTypedRow _ t.rows (Each-from_All IsTypedRow t.rows a.rows)))

  rows_typed : (query : Query) → All IsTypedRow (answer (rows_of bookmarks t.rows) query).rows
  rows_typed query =
      let found : List Row = sorted (comes_before query.sort) (filter (is_asked query) (rows_of bookmarks t.rows)) in
      limited_all IsTypedRow query.limit (drop query.offset found) (All-drop IsTypedRow query.offset found (All-from_Each IsTypedRow found (each_typed query)))

  few_found : (query : Query) → length (sorted (comes_before query.sort) (filter (is_asked query) (rows_of bookmarks t.rows))) ≤ most_rows_and_collections
  few_found query =
      omega (arith, length-reordered (reordered-sorted (comes_before query.sort) (filter (is_asked query) (rows_of bookmarks t.rows))), length-filter_le (is_asked query) (rows_of bookmarks t.rows), length-filter_le (λ (row : Row). bytes_eq row.collection bookmarks) t.rows, few_rows)

  few_picked : (query : Query) → length (answer (rows_of bookmarks t.rows) query).rows < 2 ^ 64
  few_picked query =
      let found : List Row = sorted (comes_before query.sort) (filter (is_asked query) (rows_of bookmarks t.rows)) in
      omega (arith, limited_few query.limit (drop query.offset found), length-drop query.offset found, few_found query)

  next_few : (query : Query) → IfSome (answer (rows_of bookmarks t.rows) query).next (λ k. k < 2 ^ 64)
  next_few query = next_small query.limit query.offset (length (sorted (comes_before query.sort) (filter (is_asked query) (rows_of bookmarks t.rows)))) (few_found query)

  list_typed : (query : Query) (full : Bool) → IsTypedBody (rows_body full (answer (rows_of bookmarks t.rows) query).rows)
  list_typed query true = rows_typed query
  list_typed query false =
      let rows : List Row = (answer (rows_of bookmarks t.rows) query).rows in
      All-from_Each (λ (id : List ℕ). is_id id ≡ true) (map (λ (row : Row). row.id) rows) (Each-map IsTypedRow (λ (id : List ℕ). is_id id ≡ true) (λ (row : Row). row.id) (λ row r. r.id) rows (Each-from_All IsTypedRow rows (rows_typed query)))

  -- POSTs
  ids_typed : (parts : List Part) → All IsTypedPart parts → AreIds (ids_of parts)
  ids_typed parts h =
      All-from_Each (λ (id : List ℕ). is_id id ≡ true) (ids_of parts)
      (once_each (λ id. id) (λ (id : List ℕ). is_id id ≡ true) (map (λ (part : Part). part.id) parts)
      (Each-map IsTypedPart (λ (id : List ℕ). is_id id ≡ true) (λ (part : Part). part.id) (λ part p. p.0) parts (Each-from_All IsTypedPart parts h)))

  none_failed : (failed : List (List ℕ × Reason)) → failed ≡ [] → HaveIds (first_failures failed)
  none_failed failed e = subst (λ fs. HaveIds (first_failures fs)) (sym e) (nothing (λ (failure : List ℕ × Reason). is_id failure.0 ≡ true))

  counted : (few full : Bool) → (true && (few || full)) ≡ false → full ≡ nat_le last_stamp t.counter → (1 ≤ t.counter + 1) × (t.counter + 1 ≤ last_stamp)
  counted few full e is = let f : nat_le last_stamp t.counter ≡ false = sym is ∙ neither_right few full e in let low : t.counter < last_stamp = grind (arith, nat_tests) in (omega arith, omega (arith, low))

  post_typed : (collection : List ℕ) (records : Records) (mode : Mode) (x : Cond) → IsSentRequest (Post collection records mode x) → HasTypes (Post collection records mode x) → IsReadable (Post collection records mode x) → Passes t (Post collection records mode x)
      → (time : ℕ) → time ≤ last_stamp → IsTypedBody (post_body t records mode time)
  post_typed collection records PlainPost x s h r p time low = (low, ids_typed records.parts h.0, none_failed records.failed s.1)
  post_typed collection records Begin x s h r p time low =
      let n = counted (nat_le most_live_batches (length t.batches)) (nat_le last_stamp t.counter) p.room refl in
      (n.0, n.1, ids_typed records.parts h.0, none_failed records.failed s.1)
  post_typed collection records (Append number) x s h r p time low = (r.0.0, r.0.1, ids_typed records.parts h.0, none_failed records.failed s.1)
  post_typed collection records (Commit number) x s h r p time low = (low, ids_typed records.parts h.0, none_failed records.failed s.1)

  -- ---- what is told of a request that is done

  info_typed : (what : InfoKind) → what ≡ Configuration → IsTypedBody (info_body t what)
  info_typed what e = subst (λ (w : InfoKind). IsTypedBody (info_body t w)) (sym e) tt

  body_typed : (q : Request) → IsSentRequest q → HasTypes q → IsReadable q → Passes t q → (time : ℕ) → time ≤ last_stamp → IsTypedBody (body_of t q time)
  body_typed (Info what x) s h r p time low = info_typed what s.0
  body_typed (ListOf collection query x) s h r p time low = subst (λ c. IsTypedBody (rows_body query.full (answer (rows_of c t.rows) query).rows)) (sym s.0) (list_typed query query.full)
  body_typed (Post collection records mode x) s h r p time low = post_typed collection records mode x s h r p time low
  body_typed (DeleteAll x) s h r p time low = absurd s
  body_typed (DeleteCollection collection x) s h r p time low = absurd s
  body_typed (DeleteIds collection ids x) s h r p time low = absurd s
  body_typed (GetItem collection id x) s h r p time low = absurd s
  body_typed (Put collection id fields x) s h r p time low = absurd s
  body_typed (DeleteItem collection id x) s h r p time low = absurd s

  count_small : (q : Request) → IsSentRequest q → IfSome (count_of t q) (λ n. n < 2 ^ 64)
  count_small (Info what x) s = tt
  count_small (ListOf collection query x) s = subst (λ c. length (answer (rows_of c t.rows) query).rows < 2 ^ 64) (sym s.0) (few_picked query)
  count_small (Post collection records mode x) s = tt
  count_small (DeleteAll x) s = tt
  count_small (DeleteCollection collection x) s = tt
  count_small (DeleteIds collection ids x) s = tt
  count_small (GetItem collection id x) s = tt
  count_small (Put collection id fields x) s = tt
  count_small (DeleteItem collection id x) s = tt

  offset_small : (q : Request) → IsSentRequest q → IfSome (next_of t q) (λ n. n < 2 ^ 64)
  offset_small (Info what x) s = tt
  offset_small (ListOf collection query x) s = subst (λ c. IfSome (answer (rows_of c t.rows) query).next (λ n. n < 2 ^ 64)) (sym s.0) (next_few query)
  offset_small (Post collection records mode x) s = tt
  offset_small (DeleteAll x) s = tt
  offset_small (DeleteCollection collection x) s = tt
  offset_small (DeleteIds collection ids x) s = tt
  offset_small (GetItem collection id x) s = tt
  offset_small (Put collection id fields x) s = tt
  offset_small (DeleteItem collection id x) s = tt

  told_typed : (q : Request) → IsSentRequest q → HasTypes q → IsReadable q → (why : Option Refusal) → refusal t q ≡ why → (outcome t q why).account.moment ≤ last_stamp → IsReply (outcome t q why).reply × IsTypedReply (outcome t q why).reply
  told_typed q s h r (Some why) e moment = (
    record { moment = moment; modified = why_time why (target_time t q) (target_low q s); count = tt; next = tt },
    record { next = tt; body = why_typed why },
  )
  told_typed q s h r None e moment =
      let p = passes t q e in (
        record { moment = moment; modified = time_low q s p; count = count_small q s; next = offset_small q s },
        record { next = offset_small q s; body = body_typed q s h r p (time_told t q) (time_low q s p) },
      )

-- a reading of the clock leaves the values
ticked : (account : Plain) (now : ℕ) → IsTypedAccount account → IsTypedAccount (tick account now)
ticked account now a = record {
  valid = valid-tick account now a.valid;
  time = a.time;
  rows = All-from_Each IsTypedRow (tick account now).rows (Each-filter IsTypedRow (is_alive (after account.moment now)) account.rows (Each-from_All IsTypedRow account.rows a.rows));
}

pub replies_typed : (account : Plain) (now : ℕ) (q : Request) → IsTypedAccount account → IsSentRequest q → HasTypes q → IsReadable q → IsFitRequest q → IsReply (api account now q).reply × IsTypedReply (api account now q).reply
replies_typed account now q a s h r fit =
    told_typed (tick account now) (ticked account now a) q s h r (refusal (tick account now) q) refl (valid-api account now q a.valid fit).moment
