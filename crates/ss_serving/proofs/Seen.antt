-- The rows that are shown, by their ids.
use Rattle.std.specs.Prelude.{◌≡◌, ℕ, true, false, cond, Bool, ◌&&◌, ◌||◌, List, [], ◌∷◌, map, filter, find, Some}
use Rattle.std.specs.Prelude.{option_map, bytes_eq, refl}
use Rattle.std.proofs.Common.{sym, ap, ap₂, ◌∙◌}
use Rattle.std.proofs.lemmas.List.Sorted.{ranks_by}
use Rattle.std.specs.Cmp.{IsStrictWeakOrder}
use Rattle.ss_text.specs.Texts.{sorted}
use Rattle.ss_record.specs.declared.readings.Sheet.{Sheet}
use Rattle.ss_record.specs.Ids.{Apart as IdsApart, has}
use Rattle.ss_record.proofs.IdLists.{Apart-nil, Apart-cons, has-nil, has-cons}
use Rattle.ss_bso.specs.declared.rows.Row.{Row}
use Rattle.ss_bso.specs.Account.{is_at, row_at}
use Rattle.ss_bso.specs.Limits.{rows_of}
use Rattle.ss_bso.specs.Lists.{Each, Pairs, Apart, OtherId}
use Rattle.ss_bso.proofs.Lists.{Each-any, Pairs-imp}
use Rattle.ss_bso.proofs.Reordering.{NotBoth, Pairs-reordered, find-reordered}
use Rattle.ss_query.specs.declared.requests.Sort.TheVariants.{Oldest}
use Rattle.ss_query.specs.Answer.{comes_before}
use Rattle.ss_query.proofs.Orders.{row_total, ids_distinct}
use Rattle.ss_laws.proofs.InOrder.{reordered-sorted}
use Rattle.ss_plan.specs.Written.{sheet}
use Rattle.ss_serving.specs.Bookmarks.{bookmarks, sheet_of, sheets_of}
use Rattle.ss_text.proofs.Basics.{bytes_eq-sym, bytes_eq-flip, same_text}

pub oldest_order : IsStrictWeakOrder (comes_before Oldest)
oldest_order = ranks_by (row_total Oldest) (λ (row : Row). row)

-- a find in a filtered list
find-filtered : {X : Type 0} (p q r : X → Bool) → ((y : X) → r y ≡ (q y && p y)) → (xs : List X) → find p (filter q xs) ≡ find r xs
find-filtered p q r h [] = refl
find-filtered p q r h (x ∷ xs) = elim (q x) as (λ v. q x ≡ v → find p (cond v (x ∷ filter q xs) (filter q xs)) ≡ cond (r x) (Some x) (find r xs)) [
  | true ↦ (λ e. ap (λ b. cond (p x) (Some x) b) (find-filtered p q r h xs) ∙ ap (λ b. cond b (Some x) (find r xs)) (sym (h x ∙ ap (λ v. v && p x) e)))
  | false ↦ (λ e. find-filtered p q r h xs ∙ ap (λ b. cond b (Some x) (find r xs)) (sym (h x ∙ ap (λ v. v && p x) e)))
] refl

-- the row of an id in a list of rows
pub sheet-map : (x : List ℕ) (rows : List Row) → sheet x (map sheet_of rows) ≡ option_map sheet_of (find (λ row. bytes_eq x row.id) rows)
unfolding sheet
sheet-map x [] = refl
sheet-map x (row ∷ rows) = by (bytes_eq x row.id) (sheet-map x rows)
  where
    by : (b : Bool) → find (λ s. bytes_eq x s.id) (map sheet_of rows) ≡ option_map sheet_of (find (λ r. bytes_eq x r.id) rows)
        → cond b (Some (sheet_of row)) (find (λ s. bytes_eq x s.id) (map sheet_of rows)) ≡ option_map sheet_of (cond b (Some row) (find (λ r. bytes_eq x r.id) rows))
    by true ih = refl
    by false ih = ih

-- no two of the rows have one id
only_one : (x : List ℕ) (row other : Row) → OtherId row other → NotBoth (λ r. bytes_eq x r.id) row other
only_one x row other differ = elim (bytes_eq x row.id) as (λ v. bytes_eq x row.id ≡ v → (v && bytes_eq x other.id) ≡ false) [
  | true ↦ (λ e. ap (λ id. bytes_eq id other.id) (same_text x row.id e) ∙ bytes_eq-flip other.id row.id differ)
  | false ↦ (λ e. refl)
] refl

-- the row that is shown of an id is the account's
pub sheet-shown : (rows : List Row) → Pairs Apart rows → (x : List ℕ) → sheet x (sheets_of rows) ≡ option_map sheet_of (row_at bookmarks x rows)
sheet-shown rows places x =
    sheet-map x (sorted (comes_before Oldest) (rows_of bookmarks rows))
    ∙ ap (option_map sheet_of) (
    sym (find-reordered (λ row. bytes_eq x row.id) (reordered-sorted (comes_before Oldest) (rows_of bookmarks rows))
    (Pairs-imp OtherId (NotBoth (λ row. bytes_eq x row.id)) (λ (row : Row). Unit {0}) (λ row other _ _ differ. only_one x row other differ) (rows_of bookmarks rows) (Each-any (rows_of bookmarks rows)) (ids_distinct bookmarks rows places)))
    ∙ find-filtered (λ row. bytes_eq x row.id) (λ row. bytes_eq row.collection bookmarks) (is_at bookmarks x)
    (λ row. ap (λ b. bytes_eq row.collection bookmarks && b) (bytes_eq-sym row.id x)) rows)

has-none : (row : Row) (rows : List Row) → Each (OtherId row) rows → has row.id (map (λ s. s.id) (map sheet_of rows)) ≡ false
has-none row [] e = has-nil row.id
has-none row (other ∷ rows) e =
    has-cons row.id other.id (map (λ (s : Sheet). s.id) (map sheet_of rows)) ∙ ap₂ (λ a b. a || b) (bytes_eq-flip other.id row.id e.0) (has-none row rows e.1)

apart-map : (rows : List Row) → Pairs OtherId rows → IdsApart (map (λ s. s.id) (map sheet_of rows))
apart-map [] p = Apart-nil
apart-map (row ∷ rows) p = Apart-cons row.id (map (λ (s : Sheet). s.id) (map sheet_of rows)) (has-none row rows p.0) (apart-map rows p.1)

-- no id is shown twice
pub sheets-apart : (rows : List Row) → Pairs Apart rows → IdsApart (map (λ s. s.id) (sheets_of rows))
sheets-apart rows places =
    apart-map (sorted (comes_before Oldest) (rows_of bookmarks rows))
    (Pairs-reordered OtherId (λ row other e. bytes_eq-flip other.id row.id e) (reordered-sorted (comes_before Oldest) (rows_of bookmarks rows)) (ids_distinct bookmarks rows places))

-- the rows that are shown come from those of the bookmarks
pub sheets_same : (rows others : List Row) → rows_of bookmarks rows ≡ rows_of bookmarks others → sheets_of rows ≡ sheets_of others
sheets_same rows others e = ap (λ (found : List Row). map sheet_of (sorted (comes_before Oldest) found)) e
