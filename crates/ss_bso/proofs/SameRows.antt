-- Rows are the same, whatever their order, where each place has the same row; and what a write of a list leaves at each place.
use Rattle.std.specs.Prelude.{◌≡◌, ℕ, Bool, true, false, not, ◌&&◌, cond, List, [], ◌∷◌, Some, None, find, filter}
use Rattle.std.specs.Prelude.{bytes_eq, refl}
use Rattle.std.proofs.Common.{subst, sym, ap, ◌∙◌}
use Rattle.ss_text.specs.Texts.{IsReordering, nothing, head, chain, swapped}
use Rattle.ss_bso.specs.declared.rows.Row.{Row}
use Rattle.ss_bso.specs.Account.{is_at, row_at}
use Rattle.ss_bso.specs.Lists.{Apart}
use Rattle.ss_bso.proofs.Lists.{Each, Each-any, Each-imp, Pairs, Pairs-filter, Pairs-imp, find-filter}
use Rattle.ss_bso.proofs.Reordering.{reordered-refl, reordered-sym, NotBoth, find-reordered}
use Rattle.ss_text.proofs.Basics.{both_left, both_right, same_text, bytes_eq-same}
use Rattle.std.proofs.lemmas.Bool.{and_from, not-false}

at_itself : (row : Row) → is_at row.collection row.id row ≡ true
at_itself row = and_from (bytes_eq row.collection row.collection) (bytes_eq row.id row.id) (bytes_eq-same row.collection row.collection refl) (bytes_eq-same row.id row.id refl)

-- what stands at no place of a list is left by no filter
pub filter-all : {X : Type 0} (p : X → Bool) (xs : List X) → Each (λ (x : X). p x ≡ false) xs → filter (λ x. not (p x)) xs ≡ xs
filter-all p [] e = refl
filter-all p (x ∷ xs) e = ap (λ v. cond (not v) (x ∷ filter (λ y. not (p y)) xs) (filter (λ y. not (p y)) xs)) e.0 ∙ ap (λ rest. x ∷ rest) (filter-all p xs e.1)

-- the row that a place has can be taken to the front
to_front : (row : Row) (rows : List Row) → Pairs Apart rows → row_at row.collection row.id rows ≡ Some row → IsReordering rows (row ∷ filter (λ other. not (is_at row.collection row.id other)) rows)
to_front row [] places e = cc
to_front row (first ∷ rows) places e =
    let p : Row → Bool = is_at row.collection row.id in
    elim (p first) as (λ v. p first ≡ v → cond v (Some first) (find p rows) ≡ Some row → IsReordering (first ∷ rows) (row ∷ cond (not v) (first ∷ filter (λ other. not (p other)) rows) (filter (λ other. not (p other)) rows))) [
      | true ↦ (λ t h.
          let same : first ≡ row = cc in
          let apart : Each (λ (other : Row). p other ≡ false) rows = subst (λ (one : Row). Each (λ (other : Row). is_at one.collection one.id other ≡ false) rows) same places.0 in
          subst (λ (one : Row). IsReordering (first ∷ rows) (one ∷ filter (λ other. not (p other)) rows)) same
          (subst (λ rest. IsReordering (first ∷ rows) (first ∷ rest)) (sym (filter-all p rows apart)) (reordered-refl (first ∷ rows))))
      | false ↦ (λ t h. chain (head first (to_front row rows places.1 h)) (swapped first row (filter (λ other. not (p other)) rows)))
    ] refl e

pub find-none : {X : Type 0} (p : X → Bool) (xs : List X) → Each (λ (x : X). p x ≡ false) xs → find p xs ≡ None
find-none p [] e = refl
find-none p (x ∷ xs) e = ap (λ v. cond v (Some x) (find p xs)) e.0 ∙ find-none p xs e.1

pub find-filtered_out : {X : Type 0} (p : X → Bool) (xs : List X) → find p (filter (λ x. not (p x)) xs) ≡ None
find-filtered_out p [] = refl
find-filtered_out {X} p (x ∷ xs) =
    elim (p x) as (λ v. p x ≡ v → find p (cond (not v) (x ∷ filter (λ y. not (p y)) xs) (filter (λ y. not (p y)) xs)) ≡ None) [
      | true ↦ (λ e. find-filtered_out p xs)
      | false ↦ (λ e. ap (λ v. cond v (Some x) (find p (filter (λ y. not (p y)) xs))) e ∙ find-filtered_out p xs)
    ] refl

-- the test of a place reads the place
at_same : (collection id : List ℕ) (row other : Row) → is_at collection id row ≡ true → is_at row.collection row.id other ≡ is_at collection id other
at_same collection id row other e =
    let first : row.collection ≡ collection = same_text row.collection collection (both_left (bytes_eq row.collection collection) (bytes_eq row.id id) e) in
    let second : row.id ≡ id = same_text row.id id (both_right (bytes_eq row.collection collection) (bytes_eq row.id id) e) in
    λ i. is_at (first i) (second i) other

-- a row at a place stands at no other
at_other : (collection id : List ℕ) (row other : Row) → is_at collection id row ≡ false → not (is_at row.collection row.id other) ≡ false → is_at collection id other ≡ false
at_other collection id row other e f =
    elim (is_at collection id other) as (λ v. is_at collection id other ≡ v → v ≡ false) [
      | true ↦ (λ t.
          let here : is_at row.collection row.id other ≡ true = not-false (is_at row.collection row.id other) f in
          sym (flip_at row other here) ∙ at_same collection id other row t ∙ e)
      | false ↦ (λ t. refl)
    ] refl
  where
    flip_at : (row other : Row) → is_at row.collection row.id other ≡ true → is_at other.collection other.id row ≡ true
    flip_at row other t = and_from (bytes_eq row.collection other.collection) (bytes_eq row.id other.id)
        (bytes_eq-same row.collection other.collection (sym (same_text other.collection row.collection (both_left (bytes_eq other.collection row.collection) (bytes_eq other.id row.id) t))))
        (bytes_eq-same row.id other.id (sym (same_text other.id row.id (both_right (bytes_eq other.collection row.collection) (bytes_eq other.id row.id) t))))

-- rows that are told apart by their places are the same where each place has the same row
pub same_rows : (rows others : List Row) → Pairs Apart rows → Pairs Apart others → ((collection id : List ℕ) → row_at collection id rows ≡ row_at collection id others) → IsReordering rows others
same_rows [] [] p q h = nothing
same_rows [] (other ∷ others) p q h =
    let e : None ≡ Some other = h other.collection other.id ∙ ap (λ v. cond v (Some other) (row_at other.collection other.id others)) (at_itself other) in cc
same_rows (row ∷ rows) others p q h =
    let here : row_at row.collection row.id others ≡ Some row = sym (h row.collection row.id) ∙ ap (λ v. cond v (Some row) (row_at row.collection row.id rows)) (at_itself row) in
    let rest : List Row = filter (λ other. not (is_at row.collection row.id other)) others in
    chain (head row (same_rows rows rest p.1 (Pairs-filter Apart (λ other. not (is_at row.collection row.id other)) others q)
    (λ collection id.
    elim (is_at collection id row) as (λ v. is_at collection id row ≡ v → row_at collection id rows ≡ row_at collection id rest) [
      | true ↦ (λ t.
          find-none (is_at collection id) rows (Each-imp (Apart row) (λ (other : Row). is_at collection id other ≡ false) (λ other e. sym (at_same collection id row other t) ∙ e) rows p.0)
          ∙ sym (find-at collection id t))
      | false ↦ (λ t.
          sym (ap (λ v. cond v (Some row) (row_at collection id rows)) t) ∙ h collection id
          ∙ sym (find-filter (is_at collection id) (λ other. not (is_at row.collection row.id other)) others (λ other f. at_other collection id row other t f)))
    ] refl)))
    (reordered-sym (to_front row others q here))
  where
    find-at : (collection id : List ℕ) → is_at collection id row ≡ true → row_at collection id (filter (λ other. not (is_at row.collection row.id other)) others) ≡ None
    find-at collection id t =
        ap (λ (test : Row → Bool). find test (filter (λ other. not (is_at row.collection row.id other)) others)) (λ i other. sym (at_same collection id row other t) i)
        ∙ find-filtered_out (is_at row.collection row.id) others

not_both : (a b : Bool) → (a ≡ true → b ≡ true → ⊥) → (a && b) ≡ false
not_both true true h = absurd (h refl refl)
not_both true false h = refl
not_both false b h = refl

pub pairs_not_both : {X : Type 0} (R : X → X → Type 0) (p : X → Bool) → ((x y : X) → R x y → p x ≡ true → p y ≡ true → ⊥) → (xs : List X) → Pairs R xs → Pairs (NotBoth p) xs
pairs_not_both R p h xs e = Pairs-imp R (NotBoth p) (λ x. Unit {0}) (λ x y _ _ r. not_both (p x) (p y) (h x y r)) xs (Each-any xs) e

pub clash : (b : Bool) → b ≡ true → b ≡ false → ⊥
clash b e f = let g : true ≡ false = sym e ∙ f in cc

-- look-ups give the same
pub row-same : (collection id : List ℕ) (rows others : List Row) → IsReordering rows others → Pairs Apart rows → row_at collection id rows ≡ row_at collection id others
row-same collection id rows others r places =
    find-reordered (is_at collection id) r (pairs_not_both Apart (is_at collection id)
    (λ row other apart e f.
    let first : other.collection ≡ row.collection = same_text other.collection collection (both_left (bytes_eq other.collection collection) (bytes_eq other.id id) f) ∙ sym (same_text row.collection collection (both_left (bytes_eq row.collection collection) (bytes_eq row.id id) e)) in
    let second : other.id ≡ row.id = same_text other.id id (both_right (bytes_eq other.collection collection) (bytes_eq other.id id) f) ∙ sym (same_text row.id id (both_right (bytes_eq row.collection collection) (bytes_eq row.id id) e)) in
    clash (is_at row.collection row.id other) (and_from (bytes_eq other.collection row.collection) (bytes_eq other.id row.id) (bytes_eq-same other.collection row.collection first) (bytes_eq-same other.id row.id second)) apart)
    rows places)
