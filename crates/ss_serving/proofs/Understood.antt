-- What is heard in the bodies of replies.
use Rattle.std.proofs.Common.{◌≡◌, ℕ, ℤ, ◌^◌, ◌<◌, ◌≤◌, Bool, true, false, ◌&&◌, cond, List, [], ◌∷◌, map, length}
use Rattle.std.proofs.Common.{Option, Some, None, option_map, option_and_then, codes, decimal, refl, ap, ap₂, ◌∙◌}
use Rattle.std.proofs.Common.{arith, IsUtf8, lit<, le-leb, leb}
use Rattle.std.specs.Prelude.{IfSome}
use Rattle.std.specs.Int.Signed.{mag}
use Rattle.std.specs.List.{AllByRecursion}
use Rattle.std.specs.Str.Parse.{digits_value}
use Rattle.std.proofs.lemmas.Fmt.{decimal_is_IsNumeral, decimal_nonempty, length-decimal-le}
use Rattle.std.proofs.lemmas.Str.Parse.{numerals_by_value, tells_digits, digits_value_short}
use Rattle.std.proofs.lemmas.Bool.{leb-true}
use Rattle.json.specs.Json.{number, string, object, member}
use Rattle.json.specs.Tree.{depth, items_depth, members_depth}
use Rattle.json.proofs.Printed.Decimals.{IsNumber-decimal, IsNumber-signed_decimal}
use Rattle.json.proofs.Printed.Utf8.{IsUtf8-are_ascii}
use Rattle.ss_text.specs.Names.{is_id}
use Rattle.ss_text.specs.Numbers.{number_of}
use Rattle.ss_text.specs.Time.{last_stamp, stamp_text}
use Rattle.ss_text.proofs.NameLemmas.{IsUtf8-from_id}
use Rattle.ss_http.proofs.Values.{number_again}
use Rattle.ss_record.specs.declared.readings.Sheet.{Sheet}
use Rattle.ss_bso.specs.declared.rows.Row.{Row}
use Rattle.ss_bso.specs.declared.parts.Reason.{Reason}
use Rattle.ss_route.specs.Posts.{token, batch_of}
use Rattle.ss_query.specs.Reasons.{reason_name}
use Rattle.ss_hearing.specs.Bodies.{each, id_of, stamp_in}
use Rattle.ss_hearing.specs.Lists as lists
use Rattle.ss_hearing.specs.Lists.{ids_of, next_of}
use Rattle.ss_hearing.specs.Limits.{limits_of, limit_in}
use Rattle.ss_hearing.specs.Posts.{are_words, are_failures, first_name, failure_of, failure_in, batch_in}
use Rattle.ss_bso.specs.declared.limits.TheConstants.{MOST_RECORD_PAYLOAD_BYTES, MOST_POST_RECORDS, MOST_POST_BYTES}
use Rattle.ss_bso.specs.declared.limits.TheConstants.{MOST_BATCH_RECORDS, MOST_BATCH_BYTES}
use Rattle.ss_http.specs.declared.limits.TheConstants.{BODY_ROOM}
use Rattle.ss_serving.specs.Asking.{first_failed, our_limits}
use Rattle.ss_serving.specs.Typed.{IsTypedRow}
use Rattle.ss_serving.proofs.JsonNumbers.{signed_is_utf8, IsNumber-stamp}
use Rattle.ss_serving.proofs.Bodies.{items_of, members_of, sortindex_json, row_json, rows_json, ids_json, failure_json}
use Rattle.ss_serving.proofs.Bodies.{failed_json, records_json, posted_json, staged_json, limits_json}
use Rattle.ss_serving.proofs.Clean.{IsClean, AreClean, HasClean}
use Rattle.ss_text.proofs.StampTexts.{all_three, decimal_is_utf8, decimal_digits, stamp_is_utf8, stamp_again}

-- ---- rows

abbrev pub sheet : Row → Sheet
sheet row = record { id = row.id; modified = row.modified; payload = row.payload }

sheet_is : (id : List ℕ) (time : ℕ) (payload : List ℕ) (index : Option ℤ) → is_id id ≡ true → time ≤ last_stamp
    → lists.sheet_of (object (member (codes "id") (string id) (member (codes "modified") (number (stamp_text time)) (member (codes "payload") (string payload) (sortindex_json index)))))
    ≡ Some (record { id = id; modified = time; payload = payload })
unfolding lists.sheet_of id_of stamp_in
sheet_is id time payload None i t = rw (i, stamp_again time t) refl
sheet_is id time payload (Some index) i t = rw (i, stamp_again time t) refl

each_sheet : (rows : List Row) → AllByRecursion IsTypedRow rows → each lists.sheet_of (items_of (map row_json rows)) ≡ Some (map sheet rows)
each_sheet [] h = refl
each_sheet (row ∷ rows) h =
    ap₂ (λ o p. option_and_then (λ (x : Sheet). option_map (λ (xs : List Sheet). x ∷ xs) p) o)
    (sheet_is row.id row.modified row.payload row.sortindex h.0.id h.0.modified) (each_sheet rows h.1)

pub rows_are_heard : (rows : List Row) → AllByRecursion IsTypedRow rows → lists.rows_of (rows_json rows) ≡ Some (map sheet rows)
unfolding lists.rows_of
rows_are_heard rows h = each_sheet rows h

sortindex_clean : (index : Option ℤ) → IfSome index (λ z. mag z < 2 ^ 31) → HasClean (sortindex_json index)
sortindex_clean None h = tt
sortindex_clean (Some z) h = (IsUtf8-are_ascii (codes "sortindex") refl, (IsNumber-signed_decimal z (omega arith), signed_is_utf8 z (omega arith)), tt)

row_clean : (row : Row) → IsTypedRow row → IsClean (row_json row)
row_clean row h = (
  IsUtf8-are_ascii (codes "id") refl,
  IsUtf8-from_id row.id h.id,
  (
    IsUtf8-are_ascii (codes "modified") refl,
    (IsNumber-stamp row.modified h.modified, stamp_is_utf8 row.modified h.modified),
    (IsUtf8-are_ascii (codes "payload") refl, h.payload, sortindex_clean row.sortindex h.sortindex),
  ),
)

each_clean : (rows : List Row) → AllByRecursion IsTypedRow rows → AreClean (items_of (map row_json rows))
each_clean [] h = tt
each_clean (row ∷ rows) h = (row_clean row h.0, each_clean rows h.1)

pub rows_clean : (rows : List Row) → AllByRecursion IsTypedRow rows → IsClean (rows_json rows)
rows_clean rows h = each_clean rows h

sortindex_depth : (index : Option ℤ) → members_depth (sortindex_json index) ≡ 0
sortindex_depth None = refl
sortindex_depth (Some z) = refl

each_depth : (rows : List Row) → items_depth (items_of (map row_json rows)) ≤ 1
each_depth [] = omega arith
each_depth (row ∷ rows) = omega (arith, sortindex_depth row.sortindex, each_depth rows)

pub rows_depth : (rows : List Row) → depth (rows_json rows) ≤ 128
rows_depth rows = omega (arith, each_depth rows)

-- ---- ids

abbrev pub EachIsId : List (List ℕ) → Type 0
EachIsId ids = AllByRecursion (λ id. is_id id ≡ true) ids

id_heard : (id : List ℕ) → is_id id ≡ true → id_of (string id) ≡ Some id
unfolding id_of
id_heard id h = ap (λ b. cond b (Some id) None) h

each_id : (ids : List (List ℕ)) → EachIsId ids → each id_of (items_of (map string ids)) ≡ Some ids
each_id [] h = refl
each_id (id ∷ ids) h =
    ap₂ (λ o p. option_and_then (λ (x : List ℕ). option_map (λ (xs : List (List ℕ)). x ∷ xs) p) o) (id_heard id h.0) (each_id ids h.1)

pub ids_are_heard : (ids : List (List ℕ)) → EachIsId ids → ids_of (ids_json ids) ≡ Some ids
unfolding ids_of
ids_are_heard ids h = each_id ids h

ids_items_clean : (ids : List (List ℕ)) → EachIsId ids → AreClean (items_of (map string ids))
ids_items_clean [] h = tt
ids_items_clean (id ∷ ids) h = (IsUtf8-from_id id h.0, ids_items_clean ids h.1)

pub ids_clean : (ids : List (List ℕ)) → EachIsId ids → IsClean (ids_json ids)
ids_clean ids h = ids_items_clean ids h

ids_items_depth : (ids : List (List ℕ)) → items_depth (items_of (map string ids)) ≡ 0
ids_items_depth [] = refl
ids_items_depth (id ∷ ids) = omega (arith, ids_items_depth ids)

pub ids_depth : (ids : List (List ℕ)) → depth (ids_json ids) ≤ 128
ids_depth ids = omega (arith, ids_items_depth ids)

-- ---- what a POST is told

abbrev pub EachHasId : List (List ℕ × Reason) → Type 0
EachHasId failed = AllByRecursion (λ failure. is_id failure.0 ≡ true) failed

failures_are : (failed : List (List ℕ × Reason)) → EachHasId failed → are_failures (members_of (map failure_json failed)) ≡ true
unfolding are_words
failures_are [] h = refl
failures_are (failure ∷ failed) h = ap₂ (λ a b. (a && true) && b) h.0 (failures_are failed h.1)

first_is : (failed : List (List ℕ × Reason)) → first_name (members_of (map failure_json failed)) ≡ first_failed failed
first_is [] = refl
first_is (failure ∷ failed) = refl

pub failure_is_heard : (failed : List (List ℕ × Reason)) → EachHasId failed → failure_of (failed_json failed) ≡ Some (first_failed failed)
unfolding failure_of
failure_is_heard failed h =
    ap₂ (λ b o. cond b (Some o) None) (failures_are failed h) (first_is failed)

reason_utf8 : (reason : Reason) → IsUtf8 (reason_name reason)
reason_utf8 Reason.Payload = IsUtf8-are_ascii _ refl
reason_utf8 Reason.TooLarge = IsUtf8-are_ascii _ refl
reason_utf8 Reason.Sortindex = IsUtf8-are_ascii _ refl
reason_utf8 Reason.Ttl = IsUtf8-are_ascii _ refl

failed_members_clean : (failed : List (List ℕ × Reason)) → EachHasId failed → HasClean (members_of (map failure_json failed))
failed_members_clean [] h = tt
failed_members_clean (failure ∷ failed) h = (IsUtf8-from_id failure.0 h.0, (reason_utf8 failure.1, tt), failed_members_clean failed h.1)

failed_members_depth : (failed : List (List ℕ × Reason)) → members_depth (members_of (map failure_json failed)) ≤ 1
failed_members_depth [] = omega arith
failed_members_depth (failure ∷ failed) = omega (arith, failed_members_depth failed)

records_clean : (success : List (List ℕ)) (failed : List (List ℕ × Reason)) → EachIsId success → EachHasId failed → HasClean (records_json success failed)
records_clean success failed s f =
    (IsUtf8-are_ascii (codes "success") refl, ids_clean success s, (IsUtf8-are_ascii (codes "failed") refl, failed_members_clean failed f, tt))

module _ (success : List (List ℕ)) (failed : List (List ℕ × Reason)) (s : EachIsId success) (f : EachHasId failed) where
  pub posted_clean : (time : ℕ) → time ≤ last_stamp → IsClean (posted_json time success failed)
  posted_clean time h = (IsUtf8-are_ascii (codes "modified") refl, (IsNumber-stamp time h, stamp_is_utf8 time h), records_clean success failed s f)

  pub posted_depth : (time : ℕ) → depth (posted_json time success failed) ≤ 128
  posted_depth time = omega (arith, ids_items_depth success, failed_members_depth failed)

  pub staged_clean : (batch : ℕ) → IsUtf8 (token batch) → IsClean (staged_json batch success failed)
  staged_clean batch h = (IsUtf8-are_ascii (codes "batch") refl, h, records_clean success failed s f)

  pub staged_depth : (batch : ℕ) → depth (staged_json batch success failed) ≤ 128
  staged_depth batch = omega (arith, ids_items_depth success, failed_members_depth failed)

  pub posted_failure : (time : ℕ) → failure_in (posted_json time success failed) ≡ Some (first_failed failed)
  unfolding failure_in
  posted_failure time = rw (ids_are_heard success s, failure_is_heard failed f) refl

  pub staged_failure : (batch : ℕ) → failure_in (staged_json batch success failed) ≡ Some (first_failed failed)
  unfolding failure_in
  staged_failure batch = rw (ids_are_heard success s, failure_is_heard failed f) refl

  pub posted_time : (time : ℕ) → time ≤ last_stamp → stamp_in (codes "modified") (posted_json time success failed) ≡ Some time
  unfolding stamp_in
  posted_time time h = stamp_again time h

  pub staged_batch : (batch : ℕ) → batch_of (token batch) ≡ Some batch → batch_in (staged_json batch success failed) ≡ Some batch
  unfolding batch_in
  staged_batch batch back = back

-- ---- offsets

short_back : (n : ℕ) → n < 1000000000 → number_of 9 (decimal n) ≡ Some n
unfolding number_of
short_back n small =
    let few : n < 2 ^ 64 = omega arith in
    let nine : n < 10 ^ 9 = omega arith in
    all_three _ _ _ (Some (digits_value 10 (decimal n))) (le-leb 1 _ (decimal_nonempty n few)) (le-leb _ 9 (length-decimal-le 9 n (lit< tt) nine few)) (decimal_digits n few)
    ∙ ap Some (decimal_is_IsNumeral n few).1

too_long : (a b c : Bool) (x : Option ℕ) → b ≡ false → cond (a && b && c) x None ≡ None
too_long true b c x h = ap (λ t. cond (true && t && c) x None) h
too_long false b c x h = refl

long_none : (n : ℕ) → 1000000000 ≤ n → n < 2 ^ 64 → number_of 9 (decimal n) ≡ None
unfolding number_of
long_none n large few =
    too_long _ _ _ _
    (elim (leb (length (decimal n)) 9) as (λ v. leb (length (decimal n)) 9 ≡ v → v ≡ false) [
      | true ↦ (λ t.
          let short : length (decimal n) ≤ 9 = leb-true _ 9 t in
          let small = digits_value_short (numerals_by_value _ tells_digits) (decimal n) 9 (decimal_is_IsNumeral n few).0.1 short in
          let same = (decimal_is_IsNumeral n few).1 in
          let never : ⊥ = omega arith in absurd never)
      | false ↦ (λ t. refl)
    ] refl)

pub offset_heard : (n : ℕ) → n < 1000000000 → next_of (option_map decimal (Some n)) ≡ Some (Some n)
unfolding next_of
offset_heard n small = ap (λ o. option_map (λ (k : ℕ). Some k) o) (short_back n small)

pub offset_unread : (n : ℕ) → 1000000000 ≤ n → n < 2 ^ 64 → next_of (option_map decimal (Some n)) ≡ None
unfolding next_of
offset_unread n large few = ap (λ o. option_map (λ (k : ℕ). Some k) o) (long_none n large few)

-- ---- the limits

pub limits_heard : limits_of limits_json ≡ Some our_limits
unfolding limits_of limit_in
limits_heard =
    rw (
      number_again BODY_ROOM (lit< tt),
      number_again MOST_POST_RECORDS (lit< tt),
      number_again MOST_POST_BYTES (lit< tt),
      number_again MOST_BATCH_RECORDS (lit< tt),
      number_again MOST_BATCH_BYTES (lit< tt),
    ) refl

limit_clean : (n : ℕ) → n < 2 ^ 64 → IsClean (number (decimal n))
limit_clean n h = (IsNumber-decimal n h, decimal_is_utf8 n h)

pub limits_clean : IsClean limits_json
limits_clean = (
  IsUtf8-are_ascii (codes "max_request_bytes") refl,
  limit_clean BODY_ROOM (lit< tt),
  (
    IsUtf8-are_ascii (codes "max_post_records") refl,
    limit_clean MOST_POST_RECORDS (lit< tt),
    (
      IsUtf8-are_ascii (codes "max_post_bytes") refl,
      limit_clean MOST_POST_BYTES (lit< tt),
      (
        IsUtf8-are_ascii (codes "max_total_records") refl,
        limit_clean MOST_BATCH_RECORDS (lit< tt),
        (
          IsUtf8-are_ascii (codes "max_total_bytes") refl,
          limit_clean MOST_BATCH_BYTES (lit< tt),
          (
            IsUtf8-are_ascii (codes "max_record_payload_bytes") refl,
            limit_clean MOST_RECORD_PAYLOAD_BYTES (lit< tt),
            tt,
          ),
        ),
      ),
    ),
  ),
)
