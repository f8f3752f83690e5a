-- Pages and ids.
use Rattle.std.specs.Prelude.{◌≡◌, ◌||◌, [], ◌∷◌, find, is_some, ℕ, ◌+◌, ◌<◌, ◌≤◌, Bool, true, false, ◌&&◌, cond}
use Rattle.std.specs.Prelude.{nat_lt, bytes_eq, List, length, map, filter, take, drop, Option, Some, None, option_map}
use Rattle.std.specs.Prelude.{refl}
use Rattle.std.proofs.Common.{sym, ap, subst, ◌∙◌, arith}
use Rattle.std.proofs.lemmas.Bool.Decides.{nat_tests}
use Rattle.std.proofs.lemmas.List.{take-map, drop-map, length-map}
use Rattle.ss_text.specs.Texts.{sorted, IsReordering, nothing, head, swapped, chain}
use Rattle.ss_text.specs.Time.{stops}
use Rattle.ss_text.specs.declared.stamps.Cond.TheVariants.{IfUnmodified}
use Rattle.ss_bso.specs.declared.rows.Row.{Row}
use Rattle.ss_bso.specs.Limits.{rows_of, most_rows_and_collections}
use Rattle.ss_query.specs.declared.requests.Sort.TheVariants.{Newest, Oldest}
use Rattle.ss_query.specs.Answer.{is_asked, comes_before, next_offset, answer}
use Rattle.ss_query.specs.Api.{why_stopped}
use Rattle.ss_bso.proofs.Reordering.{length-reordered}
use Rattle.ss_laws.proofs.InOrder.{reordered-sorted}
use Rattle.ss_record.specs.declared.readings.Sheet.{Sheet}
use Rattle.ss_record.specs.Ids.{has}
use Rattle.ss_record.proofs.IdLists.{has-nil, has-cons}
use Rattle.ss_route.specs.Sending.{page, all_ids}
use Rattle.ss_serving.specs.Asking.{is_offset}
use Rattle.ss_serving.specs.Serving.{IsPage, AreIdsOf, newer}
use Rattle.ss_serving.specs.Bookmarks.{bookmarks, sheet_of, sheets_of}
use Rattle.ss_serving.proofs.Lists.{filter_all, filter_same, filter_map_of}
use Rattle.ss_serving.proofs.Order.{filter_sorted}
use Rattle.ss_serving.proofs.Seen.{oldest_order, sheet-map}
use Rattle.ss_text.proofs.Basics.{length-filter_le}

-- a condition that doesn't stop a request
pub unmodified : (condition time : ℕ) → option_map why_stopped (stops (IfUnmodified condition) true time) ≡ None → time ≤ condition
unmodified condition time e =
    elim (nat_lt condition time) as (λ v. nat_lt condition time ≡ v → option_map why_stopped (cond v (Some 412) None) ≡ None → time ≤ condition)
    [ true ↦ (λ t h. cc) | false ↦ (λ t h. grind (arith, nat_tests)) ] refl e

module _ (rows : List Row) (since : Option ℕ) (offset : ℕ) where
  abbrev found : List Row
  found = sorted (comes_before Oldest) (filter (is_asked (page since offset)) (rows_of bookmarks rows))

next_last : (offset count : ℕ) → next_offset (Some 1000) offset count ≡ None → count ≤ offset + 1000
next_last offset count e =
    elim (nat_lt (offset + 1000) count) as (λ v. nat_lt (offset + 1000) count ≡ v → cond v (Some (offset + 1000)) None ≡ None → count ≤ offset + 1000)
    [ true ↦ (λ t h. cc) | false ↦ (λ t h. grind (arith, nat_tests)) ] refl e

next_more : (offset count k : ℕ) → next_offset (Some 1000) offset count ≡ Some k → (k ≡ offset + 1000) × (k < count)
next_more offset count k e =
    elim (nat_lt (offset + 1000) count) as (λ v. nat_lt (offset + 1000) count ≡ v → cond v (Some (offset + 1000)) None ≡ Some k → (k ≡ offset + 1000) × (k < count))
    [ true ↦ (λ t h. let same : offset + 1000 ≡ k = cc in let under : offset + 1000 < count = grind (arith, nat_tests) in (sym same, omega arith)) | false ↦ (λ t h. cc) ] refl e

-- what a query finds are the picked sheets
pub found_are : (rows : List Row) (since : Option ℕ) (offset : ℕ) → map sheet_of (found rows since offset) ≡ newer since (sheets_of rows)
found_are rows None offset = ap (λ l. map sheet_of (sorted (comes_before Oldest) l)) (filter_all (is_asked (page None offset)) (rows_of bookmarks rows) (λ row. refl))
found_are rows (Some time) offset =
    ap (λ l. map sheet_of (sorted (comes_before Oldest) l)) (filter_same (is_asked (page (Some time) offset)) (λ row. nat_lt time row.modified) (rows_of bookmarks rows) (λ row. one (nat_lt time row.modified)))
    ∙ ap (map sheet_of) (sym (filter_sorted (comes_before Oldest) oldest_order (λ row. nat_lt time row.modified) (rows_of bookmarks rows)))
    ∙ sym (filter_map_of sheet_of (λ sheet. nat_lt time sheet.modified) (sorted (comes_before Oldest) (rows_of bookmarks rows)))
  where
    one : (v : Bool) → (v && true) ≡ v
    one true = refl
    one false = refl

pub page_is : (rows : List Row) (since : Option ℕ) (offset : ℕ)
    → IsPage (newer since (sheets_of rows)) offset (map sheet_of (answer (rows_of bookmarks rows) (page since offset)).rows) (answer (rows_of bookmarks rows) (page since offset)).next
page_is rows since offset =
    let count : length (found rows since offset) ≡ length (newer since (sheets_of rows)) = sym (length-map (found rows since offset) sheet_of) ∙ ap length (found_are rows since offset) in
    record {
      has = sym (take-map sheet_of 1000 (drop offset (found rows since offset))) ∙ ap (take 1000) (sym (drop-map sheet_of offset (found rows since offset)) ∙ ap (drop offset) (found_are rows since offset));
      last = λ e. subst (λ n. n ≤ offset + 1000) count (next_last offset (length (found rows since offset)) e);
      more = λ k e. let h = next_more offset (length (found rows since offset)) k e in (h.0, subst (λ n. k < n) count h.1);
    }

-- an id is among those of rows where one of them has it
has-ids : (x : List ℕ) (rows : List Row) → has x (map (λ row. row.id) rows) ≡ is_some (find (λ row. bytes_eq x row.id) rows)
has-ids x [] = has-nil x
has-ids x (row ∷ rows) = has-cons x row.id (map (λ (r : Row). r.id) rows) ∙ by (bytes_eq x row.id) (has-ids x rows)
  where
    by : (b : Bool) → has x (map (λ row. row.id) rows) ≡ is_some (find (λ row. bytes_eq x row.id) rows) → (b || has x (map (λ row. row.id) rows)) ≡ is_some (cond b (Some row) (find (λ row. bytes_eq x row.id) rows))
    by true ih = refl
    by false ih = ih

some-map : (o : Option Row) → is_some (option_map sheet_of o) ≡ is_some o
some-map None = refl
some-map (Some row) = refl

some-reordered : (x : List ℕ) {xs ys : List Row} → IsReordering xs ys → is_some (find (λ row. bytes_eq x row.id) xs) ≡ is_some (find (λ row. bytes_eq x row.id) ys)
some-reordered x nothing = refl
some-reordered x (head row {xs = us} {ys = vs} r) = by (bytes_eq x row.id) (find (λ z. bytes_eq x z.id) us) (find (λ z. bytes_eq x z.id) vs) (some-reordered x r)
  where
    by : (b : Bool) (o p : Option Row) → is_some o ≡ is_some p → is_some (cond b (Some row) o) ≡ is_some (cond b (Some row) p)
    by true o p e = refl
    by false o p e = e
some-reordered x (swapped row other rows) = by (bytes_eq x row.id) (bytes_eq x other.id) (find (λ r. bytes_eq x r.id) rows)
  where
    by : (a b : Bool) (o : Option Row) → is_some (cond a (Some row) (cond b (Some other) o)) ≡ is_some (cond b (Some other) (cond a (Some row) o))
    by true true o = refl
    by true false o = refl
    by false true o = refl
    by false false o = refl
some-reordered x (chain r s) = some-reordered x r ∙ some-reordered x s

-- the ids
pub ids_are : (rows : List Row) → AreIdsOf (sheets_of rows) (map (λ row. row.id) (answer (rows_of bookmarks rows) all_ids).rows)
ids_are rows x =
    has-ids x (sorted (comes_before Newest) (filter (is_asked all_ids) (rows_of bookmarks rows)))
    ∙ (sym (some-reordered x (reordered-sorted (comes_before Newest) (filter (is_asked all_ids) (rows_of bookmarks rows))))
    ∙ (ap (λ (l : List Row). is_some (find (λ row. bytes_eq x row.id) l)) (filter_all (is_asked all_ids) (rows_of bookmarks rows) (λ row. refl))
    ∙ (some-reordered x (reordered-sorted (comes_before Oldest) (rows_of bookmarks rows))
    ∙ (sym (some-map (find (λ row. bytes_eq x row.id) (sorted (comes_before Oldest) (rows_of bookmarks rows))))
    ∙ ap is_some (sym (sheet-map x (sorted (comes_before Oldest) (rows_of bookmarks rows))))))))

-- there are no more sheets than rows
pub few_sheets : (rows : List Row) → length (sheets_of rows) ≤ length rows
few_sheets rows =
    omega (arith, length-map (sorted (comes_before Oldest) (rows_of bookmarks rows)) sheet_of, length-reordered (reordered-sorted (comes_before Oldest) (rows_of bookmarks rows)), length-filter_le (λ row. bytes_eq row.collection bookmarks) rows)

few_newer : (since : Option ℕ) (rows : List Sheet) → length (newer since rows) ≤ length rows
few_newer None rows = omega arith
few_newer (Some time) rows = length-filter_le (λ row. nat_lt time row.modified) rows

-- the next offset of a page is small
pub offset_is : (rows : List Row) → length rows ≤ most_rows_and_collections → (since : Option ℕ) (offset : ℕ) → is_offset (answer (rows_of bookmarks rows) (page since offset)).next ≡ true
offset_is rows few since offset = go (answer (rows_of bookmarks rows) (page since offset)).next (page_is rows since offset).more
  where
    go : (next : Option ℕ) → ((k : ℕ) → next ≡ Some k → (k ≡ offset + 1000) × (k < length (newer since (sheets_of rows)))) → is_offset next ≡ true
    go None h = refl
    go (Some k) h =
        let low : k < length (newer since (sheets_of rows)) = (h k refl).1 in
        let small : k < 1000000000 = omega (arith, low, few_newer since (sheets_of rows), few_sheets rows, few) in grind (arith, nat_tests)
