-- The rows that are named, and those that are left: together they are all rows.
use Rattle.std.specs.Prelude.{◌≡◌, ℕ, ◌+◌, ◌-◌, ◌≤◌, ◌<◌, min, Bool, true, false, not, ◌&&◌, ◌||◌, cond, List, [], ◌∷◌}
use Rattle.std.specs.Prelude.{◌++◌, length, filter, filter_map, find, bytes_eq, IsFalse, Option, Some, None, refl}
use Rattle.std.specs.List.{cons_option}
use Rattle.std.proofs.Common.{sym, ap, subst, ◌∙◌, arith}
use Rattle.std.proofs.lemmas.List.{length-append}
use Rattle.std.proofs.lemmas.List.Elements.{filter_agree}
use Rattle.std.proofs.lemmas.List.Sums.{sum_by-append}
use Rattle.ss_text.specs.Texts.{IsReordering, chain, head, swapped}
use Rattle.ss_bso.specs.declared.rows.Row.{Row}
use Rattle.ss_bso.specs.Account.{is_at, row_at}
use Rattle.ss_bso.specs.Limits.{row_bytes}
use Rattle.ss_bso.specs.Lists.{Each, Pairs, Apart}
use Rattle.ss_bso.specs.Write.{is_among, rows_without}
use Rattle.ss_bso.proofs.Lists.{Each-imp, Pairs-filter, find-filter}
use Rattle.ss_bso.proofs.Reordering.{NotBoth, length-reordered, reordered-refl, sum_by-reordered}
use Rattle.ss_bso.proofs.SameRows.{filter-all, pairs_not_both}
use Rattle.ss_batch.specs.Stage.{most_counted}
use Rattle.ss_writes.specs.declared.sizes.Size.{Size}
use Rattle.ss_writes.specs.Parts.{IsSize, OtherText}
use Rattle.ss_writes.proofs.Changing.{filter-true, filter-both, not_among}
use Rattle.ss_text.proofs.Basics.{and_false, both_left, both_right, bytes_eq-sym, same_text, bytes_eq-same}
use Rattle.std.proofs.lemmas.Bool.{and_from, not-false}
use Rattle.ss_index.proofs.Picks.{Each-find_none}

-- the one element that passes, before those that don't
pub pulled : {X : Type 0} (p : X → Bool) (xs : List X) (x : X) → find p xs ≡ Some x → Pairs (NotBoth p) xs → IsReordering xs (x ∷ filter (λ y. not (p y)) xs)
pulled p [] x e n = cc
pulled {X} p (y ∷ xs) x e n =
    elim (p y) as (λ v. p y ≡ v → cond v (Some y) (find p xs) ≡ Some x → IsReordering (y ∷ xs) (x ∷ cond (not v) (y ∷ filter (λ z. not (p z)) xs) (filter (λ z. not (p z)) xs))) [
      | true ↦ (λ t is.
          let same : y ≡ x = cc in
          let others : Each (λ (z : X). p z ≡ false) xs = Each-imp (NotBoth p y) (λ (z : X). p z ≡ false) (λ z h. ap (λ v. v && p z) (sym t) ∙ h) xs n.0 in
          subst (λ (first : X). IsReordering (y ∷ xs) (first ∷ filter (λ z. not (p z)) xs)) same
          (subst (λ (rest : List X). IsReordering (y ∷ xs) (y ∷ rest)) (sym (filter-all p xs others)) (head y (reordered-refl xs))))
      | false ↦ (λ t is. chain (head y (pulled p xs x is n.1)) (swapped y x (filter (λ z. not (p z)) xs)))
    ] refl e

-- the rows of other places
abbrev others_than : List ℕ → List ℕ → List Row → List Row
others_than collection id rows = filter (λ row. not (is_at collection id row)) rows

left-more : (collection id : List ℕ) (ids : List (List ℕ)) (rows : List Row) → rows_without collection (id ∷ ids) rows ≡ rows_without collection ids (others_than collection id rows)
left-more collection id ids rows =
    filter_agree (λ (row : Row). not (bytes_eq row.collection collection && (bytes_eq id row.id || is_among ids row.id)))
    (λ (row : Row). not (bytes_eq row.collection collection && bytes_eq row.id id) && not (bytes_eq row.collection collection && is_among ids row.id))
    (λ row. ap (λ v. not (bytes_eq row.collection collection && (v || is_among ids row.id))) (bytes_eq-sym id row.id)
    ∙ sym (not_among (bytes_eq row.collection collection) (bytes_eq row.id id) (is_among ids row.id))) rows
    ∙ sym (filter-both (λ (row : Row). not (bytes_eq row.collection collection && is_among ids row.id)) (λ (row : Row). not (bytes_eq row.collection collection && bytes_eq row.id id)) rows)

found-still : (collection id other : List ℕ) (rows : List Row) → IsFalse (bytes_eq other id) → row_at collection other (others_than collection id rows) ≡ row_at collection other rows
found-still collection id other rows differ =
    find-filter (is_at collection other) (λ row. not (is_at collection id row)) rows
    (λ row e. elim (is_at collection other row) as (λ v. is_at collection other row ≡ v → v ≡ false) [
      | true ↦ (λ t. absurd (
          let mine : row.id ≡ id = same_text row.id id (both_right (bytes_eq row.collection collection) (bytes_eq row.id id) (not-false (is_at collection id row) e)) in
          let its : row.id ≡ other = same_text row.id other (both_right (bytes_eq row.collection collection) (bytes_eq row.id other) t) in
          let no : bytes_eq other other ≡ false = ap (bytes_eq other) (sym its ∙ mine) ∙ differ in
          let yes : bytes_eq other other ≡ true = bytes_eq-same other other refl in
          cc))
      | false ↦ (λ t. refl)
    ] refl)

found-all : (collection id : List ℕ) (ids : List (List ℕ)) (rows : List Row) → Each (OtherText id) ids
    → filter_map (λ other. row_at collection other (others_than collection id rows)) ids ≡ filter_map (λ other. row_at collection other rows) ids
found-all collection id [] rows e = refl
found-all collection id (other ∷ ids) rows e = λ i. cons_option (found-still collection id other rows e.0 i) (found-all collection id ids rows e.1 i)

-- no two rows are at one place
one-there : (collection id : List ℕ) (rows : List Row) → Pairs Apart rows → Pairs (NotBoth (is_at collection id)) rows
one-there collection id rows apart =
    pairs_not_both Apart (is_at collection id)
    (λ x y differ s t.
    let here : x.collection ≡ y.collection = same_text x.collection collection (both_left (bytes_eq x.collection collection) (bytes_eq x.id id) s) ∙ sym (same_text y.collection collection (both_left (bytes_eq y.collection collection) (bytes_eq y.id id) t)) in
    let same : x.id ≡ y.id = same_text x.id id (both_right (bytes_eq x.collection collection) (bytes_eq x.id id) s) ∙ sym (same_text y.id id (both_right (bytes_eq y.collection collection) (bytes_eq y.id id) t)) in
    let yes : is_at x.collection x.id y ≡ true = and_from (bytes_eq y.collection x.collection) (bytes_eq y.id x.id)
    (bytes_eq-same y.collection x.collection (sym here)) (bytes_eq-same y.id x.id (sym same)) in
    let no : is_at x.collection x.id y ≡ false = differ in
    let clash : true ≡ false = sym yes ∙ no in cc) rows apart

pub replaced : (collection : List ℕ) (ids : List (List ℕ)) (rows : List Row) → Pairs Apart rows → Pairs OtherText ids
    → IsReordering rows (filter_map (λ id. row_at collection id rows) ids ++ rows_without collection ids rows)
replaced collection [] rows apart differ = subst (λ (left : List Row). IsReordering rows left) (sym (all_left rows)) (reordered-refl rows)
  where
    all_left : (rs : List Row) → rows_without collection [] rs ≡ rs
    all_left rs = filter_agree (λ (row : Row). not (bytes_eq row.collection collection && false)) (λ row. true) (λ row. ap not (and_false (bytes_eq row.collection collection))) rs ∙ filter-true rs
replaced collection (id ∷ ids) rows apart differ =
    let rest : List Row = others_than collection id rows in
    let named : List Row = filter_map (λ other. row_at collection other rows) ids in
    let later : IsReordering rest (named ++ rows_without collection (id ∷ ids) rows) =
    subst (λ (left : List Row). IsReordering rest (named ++ left)) (sym (left-more collection id ids rows))
    (subst (λ (found : List Row). IsReordering rest (found ++ rows_without collection ids rest)) (found-all collection id ids rows differ.0)
    (replaced collection ids rest (Pairs-filter Apart (λ row. not (is_at collection id row)) rows apart) differ.1)) in
    elim (row_at collection id rows) as (λ o. row_at collection id rows ≡ o → IsReordering rows (cons_option o named ++ rows_without collection (id ∷ ids) rows)) [
      | None ↦ (λ e. subst (λ (all : List Row). IsReordering all (named ++ rows_without collection (id ∷ ids) rows)) (filter-all (is_at collection id) rows (Each-find_none (is_at collection id) rows e)) later)
      | Some row ↦ (λ e. chain (pulled (is_at collection id) rows row e (one-there collection id rows apart)) (head row later))
    ] refl

-- the counts of what is left and what is added
pub record Parted (collection : List ℕ) (ids : List (List ℕ)) (rows : List Row) : Type 0 where
  pub number : length rows ≡ length (filter_map (λ id. row_at collection id rows) ids) + length (rows_without collection ids rows)
  pub bytes : row_bytes rows ≡ row_bytes (filter_map (λ id. row_at collection id rows) ids) + row_bytes (rows_without collection ids rows)

pub parted : (collection : List ℕ) (ids : List (List ℕ)) (rows : List Row) → Pairs Apart rows → Pairs OtherText ids → Parted collection ids rows
parted collection ids rows apart differ =
    let found : List Row = filter_map (λ id. row_at collection id rows) ids in
    let left : List Row = rows_without collection ids rows in
    let same = replaced collection ids rows apart differ in
    record {
      number = length-reordered same ∙ length-append found left;
      bytes = sum_by-reordered (λ (row : Row). length row.payload) same ∙ sum_by-append (λ (row : Row). length row.payload) found left;
    }

-- what is named is no more than all
pub gone-rows : (collection : List ℕ) (ids : List (List ℕ)) (rows : List Row) (gone : Size) (number : ℕ) → Pairs Apart rows → Pairs OtherText ids
    → IsSize (filter_map (λ id. row_at collection id rows) ids) gone → number ≡ length rows → gone.rows ≤ number
gone-rows collection ids rows gone number apart differ is n =
    let a = (parted collection ids rows apart differ).number in let c = is.number in omega (arith, a, c, n)

pub gone-bytes : (collection : List ℕ) (ids : List (List ℕ)) (rows : List Row) (gone : Size) (total : ℕ) → Pairs Apart rows → Pairs OtherText ids → row_bytes rows < most_counted
    → IsSize (filter_map (λ id. row_at collection id rows) ids) gone → total ≡ min (row_bytes rows) most_counted → gone.bytes ≤ total
gone-bytes collection ids rows gone total apart differ small is t =
    let b = (parted collection ids rows apart differ).bytes in let d = is.bytes in omega (arith, b, d, t, small)

pub size-replaced : (collection : List ℕ) (ids : List (List ℕ)) (rows made : List Row) (gone added size : Size) (number total : ℕ) → Pairs Apart rows → Pairs OtherText ids → row_bytes rows < most_counted → length rows ≤ most_counted
    → IsSize (filter_map (λ id. row_at collection id rows) ids) gone → IsSize made added → number ≡ length rows → total ≡ min (row_bytes rows) most_counted
    → size.rows ≡ min ((number - gone.rows) + added.rows) most_counted → size.bytes ≡ min ((total - gone.bytes) + added.bytes) most_counted
    → IsSize (rows_without collection ids rows ++ made) size
size-replaced collection ids rows made gone added size number total apart differ small few is new n t r b =
    let p = parted collection ids rows apart differ in
    let left : List Row = rows_without collection ids rows in
    let pn = p.number in let pb = p.bytes in let gn = is.number in let gb = is.bytes in let an = new.number in let ab = new.bytes in
    let rows_are : length (left ++ made) ≡ length left + length made = length-append left made in
    let bytes_are : row_bytes (left ++ made) ≡ row_bytes left + row_bytes made = sum_by-append (λ (row : Row). length row.payload) left made in
    record {
      number = omega (arith, pn, gn, an, n, r, rows_are, few);
      bytes = omega (arith, pb, gb, ab, t, b, bytes_are, small);
    }
