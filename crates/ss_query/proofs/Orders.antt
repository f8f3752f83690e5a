-- The orders of a query's answer and of names are total, and strict on distinct ids and names, so the answers don't depend on the order of the rows.
use Rattle.std.specs.Prelude.{◌≡◌, ℕ, Bool, true, false, not, ◌&&◌, List, length, filter, unwrap_or, pos, bytes_eq}
use Rattle.std.specs.Prelude.{IsFalse, drop, refl}
use Rattle.std.proofs.Common.{sym, ap, ◌∙◌}
use Rattle.std.specs.declared.cmp.Ordering.{Ordering}
use Rattle.std.specs.declared.cmp.Ordering.TheVariants.{Less, Equal, Greater}
use Rattle.std.specs.Ordering.{ordering_then, ordering_reverse, is_lt, is_eq}
use Rattle.std.specs.Cmp.{IsTotalOrder, nat_cmp_total, int_cmp_total, then_total, on_total, back_total}
use Rattle.std.specs.Cmp.Lexicographic.{nat_list_cmp_total, texts_ties}
use Rattle.ss_text.specs.Texts.{IsReordering, sorted, text_cmp}
use Rattle.ss_bso.specs.declared.rows.Row.{Row}
use Rattle.ss_bso.specs.Limits.{rows_of}
use Rattle.ss_query.specs.declared.requests.Query.{Query}
use Rattle.ss_query.specs.declared.requests.Sort.{Sort}
use Rattle.ss_query.specs.declared.requests.Sort.TheVariants.{Newest, Oldest, Index}
use Rattle.ss_query.specs.declared.replies.Picked.{Picked}
use Rattle.ss_query.specs.Answer.{is_asked, sort_cmp, row_cmp, comes_before, limited_list, next_offset, answer}
use Rattle.ss_query.specs.Answer.{answer_of}
use Rattle.ss_bso.specs.Lists.{Apart, OtherId}
use Rattle.ss_query.specs.Told.{by_name}
use Rattle.ss_bso.proofs.Lists.{Each-any, Each-passes, Pairs, Pairs-filter, Pairs-imp}
use Rattle.ss_bso.proofs.Reordering.{reordered-filter, Ranked, sorted-reordered}
use Rattle.ss_text.proofs.Basics.{bytes_eq-flip, same_text, bytes_eq-same, is_less}

sort_total : (sort : Sort) → IsTotalOrder (sort_cmp sort)
sort_total Newest = back_total (on_total (λ (row : Row). row.modified) nat_cmp_total)
sort_total Oldest = on_total (λ (row : Row). row.modified) nat_cmp_total
sort_total Index = back_total (on_total (λ (row : Row). unwrap_or row.sortindex (pos 0)) int_cmp_total)

pub row_total : (sort : Sort) → IsTotalOrder (row_cmp sort)
row_total sort = then_total (sort_total sort) (on_total (λ (row : Row). row.id) nat_list_cmp_total)

-- what comes before, by a total order
pub through : {X : Type 0} (R : X → X → Ordering) → IsTotalOrder R → (x y z : X) → is_lt (R x y) ≡ true → is_lt (R y z) ≡ true → is_lt (R x z) ≡ true
through R o x y z e f = ap is_lt (o.trans x y z (is_less (R x y) e) (is_less (R y z) f))

less_reversed : (o : Ordering) → is_lt (ordering_reverse o) ≡ true → is_lt o ≡ false
less_reversed Less e = cc
less_reversed Equal e = refl
less_reversed Greater e = refl

pub asymmetric : {X : Type 0} (R : X → X → Ordering) → IsTotalOrder R → (x y : X) → is_lt (R x y) ≡ true → is_lt (R y x) ≡ false
asymmetric R o x y e = less_reversed (R y x) (ap is_lt (sym (o.antisymm x y)) ∙ e)

reversed : (o : Ordering) → (o ≡ Equal → ⊥) → is_lt (ordering_reverse o) ≡ not (is_lt o)
reversed Less h = refl
reversed Equal h = absurd (h refl)
reversed Greater h = refl

pub ranked : {X : Type 0} (R : X → X → Ordering) → IsTotalOrder R → (x y : X) → (R x y ≡ Equal → ⊥) → Ranked (λ (a b : X). is_lt (R a b)) x y
ranked R o x y h = ap is_lt (o.antisymm y x) ∙ reversed (R x y) h

then_equal : (a b : Ordering) → ordering_then a b ≡ Equal → b ≡ Equal
then_equal Less b e = cc
then_equal Equal b e = e
then_equal Greater b e = cc

-- texts that differ don't tie
pub untied : (x y : List ℕ) → bytes_eq y x ≡ false → text_cmp y x ≡ Equal → ⊥
untied x y e h = let clash : true ≡ false = sym (texts_ties y x ∙ ap is_eq h) ∙ e in cc

both_sides : (a b : Bool) → a ≡ true → (a && b) ≡ false → b ≡ false
both_sides true b e f = f
both_sides false b e f = cc

-- the rows of one collection have distinct ids
pub ids_distinct : (collection : List ℕ) (rows : List Row) → Pairs Apart rows → Pairs OtherId (rows_of collection rows)
ids_distinct collection rows places =
    Pairs-imp Apart OtherId (λ (row : Row). bytes_eq row.collection collection ≡ true)
    (λ row other e f apart.
    let here : other.collection ≡ row.collection = same_text other.collection collection f ∙ sym (same_text row.collection collection e) in
    both_sides (bytes_eq other.collection row.collection) (bytes_eq other.id row.id) (bytes_eq-same other.collection row.collection here) apart)
    (rows_of collection rows) (Each-passes (λ row. bytes_eq row.collection collection) rows)
    (Pairs-filter Apart (λ row. bytes_eq row.collection collection) rows places)

ranked_rows : (sort : Sort) (row other : Row) → OtherId row other → Ranked (comes_before sort) row other
ranked_rows sort row other e =
    ranked (row_cmp sort) (row_total sort) row other (λ h. untied other.id row.id (bytes_eq-flip other.id row.id e) (then_equal (sort_cmp sort row other) (text_cmp row.id other.id) h))

pub sorted_rows-reordered : (sort : Sort) (rows others : List Row) → IsReordering rows others → Pairs OtherId rows → sorted (comes_before sort) rows ≡ sorted (comes_before sort) others
sorted_rows-reordered sort rows others r distinct =
    sorted-reordered (comes_before sort) (through (row_cmp sort) (row_total sort)) r
    (Pairs-imp OtherId (Ranked (comes_before sort)) (λ (row : Row). Unit {0}) (λ row other _ _ e. ranked_rows sort row other e) rows (Each-any rows) distinct)

-- the answer over rows that a query asks for does not depend on their order
pub answer_of-reordered : (rows others : List Row) (query : Query) → IsReordering rows others → Pairs OtherId rows → answer_of rows query ≡ answer_of others query
answer_of-reordered rows others query r distinct =
    ap (λ (found : List Row). let picked : Picked = record { rows = limited_list query.limit (drop query.offset found); next = next_offset query.limit query.offset (length found) } in picked)
    (sorted_rows-reordered query.sort rows others r distinct)

-- nor does the answer over the rows of a collection
pub answer-reordered : (rows others : List Row) (query : Query) → IsReordering rows others → Pairs OtherId rows → answer rows query ≡ answer others query
answer-reordered rows others query r distinct =
    answer_of-reordered (filter (is_asked query) rows) (filter (is_asked query) others) query (reordered-filter (is_asked query) r) (Pairs-filter OtherId (is_asked query) rows distinct)

abbrev pub NamedApart : (List ℕ × ℕ) → (List ℕ × ℕ) → Type 0
NamedApart entry other = IsFalse (bytes_eq other.0 entry.0)

pub by_name-reordered : (times others : List (List ℕ × ℕ)) → IsReordering times others → Pairs NamedApart times → by_name times ≡ by_name others
by_name-reordered times others r distinct =
    let R : (List ℕ × ℕ) → (List ℕ × ℕ) → Ordering = λ a b. text_cmp a.0 b.0 in
    let total : IsTotalOrder R = on_total (λ (entry : List ℕ × ℕ). entry.0) nat_list_cmp_total in
    sorted-reordered (λ (a b : List ℕ × ℕ). is_lt (text_cmp a.0 b.0)) (through R total) r
    (Pairs-imp NamedApart (Ranked (λ (a b : List ℕ × ℕ). is_lt (text_cmp a.0 b.0))) (λ (entry : List ℕ × ℕ). Unit {0})
    (λ entry other _ _ e. ranked R total entry other (untied other.0 entry.0 (bytes_eq-flip other.0 entry.0 e))) times (Each-any times) distinct)
