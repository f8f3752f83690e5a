-- What a write of a list leaves at each place.
use Rattle.std.specs.Prelude.{◌≡◌, ◌≢◌, ℕ, Bool, true, false, not, ◌&&◌, ◌||◌, cond, List, [], ◌∷◌, ◌++◌, Option, Some}
use Rattle.std.specs.Prelude.{None, find, filter, filter_map, map, bytes_eq, refl}
use Rattle.std.specs.List.{cons_option}
use Rattle.std.proofs.Common.{subst, sym, ap, ◌∙◌}
use Rattle.ss_text.specs.Texts.{IsReordering, chain, once_by}
use Rattle.ss_bso.specs.declared.rows.Row.{Row}
use Rattle.ss_bso.specs.declared.parts.Part.{Part}
use Rattle.ss_bso.specs.declared.account.Plain.{Plain}
use Rattle.ss_bso.specs.Account.{is_at, row_at}
use Rattle.ss_bso.specs.Validity.{IsValid}
use Rattle.ss_bso.specs.Put.{row_after_put}
use Rattle.ss_bso.specs.Write.{ids_of, parts_of, is_among, put_all, rows_without, rows_written}
use Rattle.ss_laws.specs.Laws.{WriteLaw}
use Rattle.ss_bso.proofs.Lists.{Each-imp, Each-passes, Pairs-from_AllPairs, find-skip, find-filter}
use Rattle.ss_bso.proofs.Reordering.{reordered-append_right, reordered-filter}
use Rattle.ss_bso.proofs.SameRows.{same_rows, row-same}
use Rattle.ss_bso.specs.Lists.{Pairs, Apart}
use Rattle.ss_laws.proofs.Written.{IsNamed, made, made_named, places-written}
use Rattle.ss_text.proofs.Basics.{and_false, or_false, both_left, both_right, neither_left, neither_right, bytes_eq-sym}
use Rattle.ss_text.proofs.Basics.{same_text, bytes_eq-same}
use Rattle.std.proofs.lemmas.Bool.{and_from, not-false, not-true}

-- an id stands among ids as often once as in all of them
among-filter : (id x : List ℕ) (ids : List (List ℕ)) → bytes_eq x id ≡ false → is_among (filter (λ y. not (bytes_eq y x)) ids) id ≡ is_among ids id
among-filter id x [] e = refl
among-filter id x (y ∷ ids) e =
    elim (bytes_eq y x) as (λ v. bytes_eq y x ≡ v → is_among (cond (not v) (y ∷ filter (λ z. not (bytes_eq z x)) ids) (filter (λ z. not (bytes_eq z x)) ids)) id ≡ (bytes_eq y id || is_among ids id)) [
      | true ↦ (λ t. among-filter id x ids e ∙ ap (λ v. v || is_among ids id) (sym (ap (λ name. bytes_eq name id) (same_text y x t) ∙ e)))
      | false ↦ (λ t. ap (λ rest. bytes_eq y id || rest) (among-filter id x ids e))
    ] refl

pub among-once : (id : List ℕ) (ids : List (List ℕ)) → is_among (once_by (λ x. x) ids) id ≡ is_among ids id
among-once id [] = refl
among-once id (x ∷ ids) =
    elim (bytes_eq x id) as (λ v. bytes_eq x id ≡ v → (v || is_among (filter (λ y. not (bytes_eq y x)) (once_by (λ x. x) ids)) id) ≡ (v || is_among ids id)) [
      | true ↦ (λ t. refl)
      | false ↦ (λ t. among-filter id x (once_by (λ x. x) ids) t ∙ among-once id ids)
    ] refl

pub none_named : (id : List ℕ) (parts : List Part) → is_among (map (λ part. part.id) parts) id ≡ false → parts_of id parts ≡ []
none_named id [] e = refl
none_named id (part ∷ parts) e =
    ap (λ v. cond v (part ∷ parts_of id parts) (parts_of id parts)) (neither_left (bytes_eq part.id id) (is_among (map (λ part. part.id) parts) id) e)
    ∙ none_named id parts (neither_right (bytes_eq part.id id) (is_among (map (λ part. part.id) parts) id) e)

find-append_none : {X : Type 0} (p : X → Bool) (xs ys : List X) → find p ys ≡ None → find p (xs ++ ys) ≡ find p xs
find-append_none p [] ys e = e
find-append_none p (x ∷ xs) ys e = ap (λ rest. cond (p x) (Some x) rest) (find-append_none p xs ys e)

same_branch : {X : Type 0} (b : Bool) (x : X) → cond b x x ≡ x
same_branch true x = refl
same_branch false x = refl

-- the rows that are made, read at a place
find-made : (collection id : List ℕ) (make : List ℕ → Option Row) → ((x : List ℕ) (row : Row) → make x ≡ Some row → IsNamed collection x row) → (ids : List (List ℕ))
    → row_at collection id (filter_map make ids) ≡ cond (is_among ids id) (make id) None
find-made collection id make named [] = refl
find-made collection id make named (x ∷ ids) =
    elim (bytes_eq x id) as (λ v. bytes_eq x id ≡ v → row_at collection id (cons_option (make x) (filter_map make ids)) ≡ cond (v || is_among ids id) (make id) None) [
      | true ↦ (λ t.
          let same : x ≡ id = same_text x id t in
          subst (λ name. row_at collection id (cons_option (make name) (filter_map make ids)) ≡ make id) (sym same) (found (find-made collection id make named ids) (make id) refl))
      | false ↦ (λ t. passed t (make x) refl ∙ find-made collection id make named ids)
    ] refl
  where
    found : row_at collection id (filter_map make ids) ≡ cond (is_among ids id) (make id) None → (o : Option Row) → make id ≡ o → row_at collection id (cons_option (make id) (filter_map make ids)) ≡ make id
    found rest None e =
        ap (λ first. row_at collection id (cons_option first (filter_map make ids))) e ∙ rest
        ∙ ap (λ first. cond (is_among ids id) first None) e ∙ same_branch (is_among ids id) None ∙ sym e
    found rest (Some row) e =
        let h = named id row e in
        ap (λ first. row_at collection id (cons_option first (filter_map make ids))) e
        ∙ ap (λ v. cond v (Some row) (row_at collection id (filter_map make ids))) (and_from (bytes_eq row.collection collection) (bytes_eq row.id id) (bytes_eq-same row.collection collection h.named) (bytes_eq-same row.id id h.of))
        ∙ sym e

    passed : bytes_eq x id ≡ false → (o : Option Row) → make x ≡ o → row_at collection id (cons_option (make x) (filter_map make ids)) ≡ row_at collection id (filter_map make ids)
    passed t None e = ap (λ first. row_at collection id (cons_option first (filter_map make ids))) e
    passed t (Some row) e =
        ap (λ first. row_at collection id (cons_option first (filter_map make ids))) e
        ∙ ap (λ v. cond v (Some row) (row_at collection id (filter_map make ids)))
        (ap (λ v. bytes_eq row.collection collection && v) (ap (λ name. bytes_eq name id) (named x row e).of ∙ t) ∙ and_false (bytes_eq row.collection collection))

-- a row that is kept, and one that goes
kept_apart : (collection id : List ℕ) (ids : List (List ℕ)) (row : Row) → is_among ids id ≡ true → not (bytes_eq row.collection collection && is_among ids row.id) ≡ true → is_at collection id row ≡ false
kept_apart collection id ids row among kept =
    elim (is_at collection id row) as (λ v. is_at collection id row ≡ v → v ≡ false) [
      | true ↦ (λ t.
          let here : bytes_eq row.collection collection ≡ true = both_left (bytes_eq row.collection collection) (bytes_eq row.id id) t in
          let named : row.id ≡ id = same_text row.id id (both_right (bytes_eq row.collection collection) (bytes_eq row.id id) t) in
          sym (and_from (bytes_eq row.collection collection) (is_among ids row.id) here (ap (λ name. is_among ids name) named ∙ among))
          ∙ not-true (bytes_eq row.collection collection && is_among ids row.id) kept)
      | false ↦ (λ t. refl)
    ] refl

gone_apart : (collection id : List ℕ) (ids : List (List ℕ)) (row : Row) → is_among ids id ≡ false → not (bytes_eq row.collection collection && is_among ids row.id) ≡ false → is_at collection id row ≡ false
gone_apart collection id ids row among gone =
    elim (is_at collection id row) as (λ v. is_at collection id row ≡ v → v ≡ false) [
      | true ↦ (λ t.
          let named : row.id ≡ id = same_text row.id id (both_right (bytes_eq row.collection collection) (bytes_eq row.id id) t) in
          sym (both_right (bytes_eq row.collection collection) (is_among ids row.id) (not-false (bytes_eq row.collection collection && is_among ids row.id) gone)) ∙ ap (λ name. is_among ids name) named ∙ among)
      | false ↦ (λ t. refl)
    ] refl

write-here : (collection : List ℕ) (parts : List Part) (time : ℕ) (rows : List Row) (id : List ℕ) → row_at collection id (rows_written collection parts time rows) ≡ put_all collection (parts_of id parts) time (row_at collection id rows)
write-here collection parts time rows id =
    let ids : List (List ℕ) = ids_of parts in
    let make : List ℕ → Option Row = made collection parts time rows in
    let keep : Row → Bool = λ row. not (bytes_eq row.collection collection && is_among ids row.id) in
    let new : row_at collection id (filter_map make ids) ≡ cond (is_among ids id) (make id) None = find-made collection id make (made_named collection parts time rows) ids in
    elim (is_among ids id) as (λ v. is_among ids id ≡ v → row_at collection id (filter keep rows ++ filter_map make ids) ≡ make id) [
      | true ↦ (λ t.
          find-skip (is_at collection id) (filter keep rows) (filter_map make ids)
          (Each-imp (λ (row : Row). keep row ≡ true) (λ (row : Row). is_at collection id row ≡ false) (λ row kept. kept_apart collection id ids row t kept) (filter keep rows) (Each-passes keep rows))
          ∙ new ∙ ap (λ v. cond v (make id) None) t)
      | false ↦ (λ t.
          find-append_none (is_at collection id) (filter keep rows) (filter_map make ids) (new ∙ ap (λ v. cond v (make id) None) t)
          ∙ find-filter (is_at collection id) keep rows (λ row gone. gone_apart collection id ids row t gone)
          ∙ sym (ap (λ named. put_all collection named time (row_at collection id rows)) (none_named id parts (sym (among-once id (map (λ part. part.id) parts)) ∙ t))))
    ] refl

elsewhere_apart : (collection other id : List ℕ) (row : Row) → other ≢ collection → bytes_eq row.collection collection ≡ true → is_at other id row ≡ false
elsewhere_apart collection other id row differ here =
    elim (is_at other id row) as (λ v. is_at other id row ≡ v → v ≡ false) [
      | true ↦ (λ t. absurd (differ (sym (same_text row.collection other (both_left (bytes_eq row.collection other) (bytes_eq row.id id) t)) ∙ same_text row.collection collection here)))
      | false ↦ (λ t. refl)
    ] refl

find-made_elsewhere : (collection other id : List ℕ) (make : List ℕ → Option Row) → other ≢ collection → ((x : List ℕ) (row : Row) → make x ≡ Some row → IsNamed collection x row) → (ids : List (List ℕ))
    → row_at other id (filter_map make ids) ≡ None
find-made_elsewhere collection other id make differ named [] = refl
find-made_elsewhere collection other id make differ named (x ∷ ids) = passed (make x) refl ∙ find-made_elsewhere collection other id make differ named ids
  where
    passed : (o : Option Row) → make x ≡ o → row_at other id (cons_option (make x) (filter_map make ids)) ≡ row_at other id (filter_map make ids)
    passed None e = ap (λ first. row_at other id (cons_option first (filter_map make ids))) e
    passed (Some row) e =
        ap (λ first. row_at other id (cons_option first (filter_map make ids))) e
        ∙ ap (λ v. cond v (Some row) (row_at other id (filter_map make ids))) (elsewhere_apart collection other id row differ (bytes_eq-same row.collection collection (named x row e).named))

write-elsewhere : (collection : List ℕ) (parts : List Part) (time : ℕ) (rows : List Row) (other id : List ℕ) → other ≢ collection → row_at other id (rows_written collection parts time rows) ≡ row_at other id rows
write-elsewhere collection parts time rows other id differ =
    let ids : List (List ℕ) = ids_of parts in
    find-append_none (is_at other id) (rows_without collection ids rows) (filter_map (made collection parts time rows) ids)
    (find-made_elsewhere collection other id (made collection parts time rows) differ (made_named collection parts time rows) ids)
    ∙ find-filter (is_at other id) (λ row. not (bytes_eq row.collection collection && is_among ids row.id)) rows
    (λ row gone. elsewhere_apart collection other id row differ (both_left (bytes_eq row.collection collection) (is_among ids row.id) (not-false (bytes_eq row.collection collection && is_among ids row.id) gone)))

pub write_law : (collection : List ℕ) (parts : List Part) (time : ℕ) (rows : List Row) → WriteLaw collection parts time rows
write_law collection parts time rows = record { here = write-here collection parts time rows; elsewhere = write-elsewhere collection parts time rows }

-- one list after the other
pub parts_of-append : (id : List ℕ) (parts more : List Part) → parts_of id (parts ++ more) ≡ parts_of id parts ++ parts_of id more
parts_of-append id [] more = refl
parts_of-append id (part ∷ parts) more =
    elim (bytes_eq part.id id) as (λ v. cond v (part ∷ parts_of id (parts ++ more)) (parts_of id (parts ++ more)) ≡ cond v (part ∷ parts_of id parts) (parts_of id parts) ++ parts_of id more)
    [ true ↦ ap (λ rest. part ∷ rest) (parts_of-append id parts more) | false ↦ parts_of-append id parts more ]

pub put_all-append : (collection : List ℕ) (parts more : List Part) (time : ℕ) (old : Option Row) → put_all collection (parts ++ more) time old ≡ put_all collection more time (put_all collection parts time old)
put_all-append collection [] more time old = refl
put_all-append collection (part ∷ parts) more time old = put_all-append collection parts more time (Some (row_after_put old collection part time))

pub rows_written-one_by_one : (rows : List Row) (collection : List ℕ) (parts more : List Part) (time : ℕ) → Pairs Apart rows
    → IsReordering (rows_written collection (parts ++ more) time rows) (rows_written collection more time (rows_written collection parts time rows))
rows_written-one_by_one rows collection parts more time places =
    let once : List Row = rows_written collection parts time rows in
    same_rows (rows_written collection (parts ++ more) time rows) (rows_written collection more time once)
    (places-written collection (parts ++ more) time rows places) (places-written collection more time once (places-written collection parts time rows places))
    (λ other id.
    elim (bytes_eq other collection) as (λ v. bytes_eq other collection ≡ v → row_at other id (rows_written collection (parts ++ more) time rows) ≡ row_at other id (rows_written collection more time once)) [
      | true ↦ (λ t.
          subst (λ name. row_at name id (rows_written collection (parts ++ more) time rows) ≡ row_at name id (rows_written collection more time once)) (sym (same_text other collection t))
          (write-here collection (parts ++ more) time rows id
          ∙ ap (λ named. put_all collection named time (row_at collection id rows)) (parts_of-append id parts more)
          ∙ put_all-append collection (parts_of id parts) (parts_of id more) time (row_at collection id rows)
          ∙ sym (write-here collection more time once id ∙ ap (λ old. put_all collection (parts_of id more) time old) (write-here collection parts time rows id))))
      | false ↦ (λ t.
          let differ : other ≢ collection = λ e. let clash : true ≡ false = sym (bytes_eq-same other collection e) ∙ t in cc in
          write-elsewhere collection (parts ++ more) time rows other id differ
          ∙ sym (write-elsewhere collection more time once other id differ ∙ write-elsewhere collection parts time rows other id differ))
    ] refl)

pub rows_written-joined : (account : Plain) (collection : List ℕ) (parts more : List Part) (time : ℕ) → IsValid account
    → IsReordering (rows_written collection (parts ++ more) time account.rows) (rows_written collection more time (rows_written collection parts time account.rows))
rows_written-joined account collection parts more time valid = rows_written-one_by_one account.rows collection parts more time (Pairs-from_AllPairs Apart account.rows valid.places)

-- a write does not depend on the order of the rows
pub rows_written-reordered : (collection : List ℕ) (parts : List Part) (time : ℕ) (rows others : List Row) → IsReordering rows others → Pairs Apart rows
    → IsReordering (rows_written collection parts time rows) (rows_written collection parts time others)
rows_written-reordered collection parts time rows others r places =
    let made_eq : filter_map (made collection parts time rows) (ids_of parts) ≡ filter_map (made collection parts time others) (ids_of parts) =
    λ i. filter_map (λ id. put_all collection (parts_of id parts) time (row-same collection id rows others r places i)) (ids_of parts) in
    subst (λ more. IsReordering (rows_without collection (ids_of parts) rows ++ filter_map (made collection parts time rows) (ids_of parts)) (rows_without collection (ids_of parts) others ++ more)) made_eq
    (reordered-append_right (filter_map (made collection parts time rows) (ids_of parts)) (reordered-filter (λ row. not (bytes_eq row.collection collection && is_among (ids_of parts) row.id)) r))

-- ---- one part: the row of its place goes, and the row that it makes comes at the end

-- the rows with one in its place
abbrev pub with_row : Row → List Row → List Row
with_row row rows = filter (λ other. not (is_at row.collection row.id other)) rows ++ row ∷ []

pub rows_written-one : (collection : List ℕ) (part : Part) (time : ℕ) (rows : List Row) → rows_written collection (part ∷ []) time rows ≡ with_row (row_after_put (row_at collection part.id rows) collection part time) rows
rows_written-one collection part time rows =
    (λ i. filter (λ (row : Row). not (bytes_eq row.collection collection && (or_false (bytes_eq part.id row.id) ∙ bytes_eq-sym part.id row.id) i)) rows
    ++ cons_option (put_all collection (cond (bytes_eq-same part.id part.id refl i) (part ∷ []) []) time (row_at collection part.id rows)) [])

-- a loop's step: one more part
pub rows_written-more : (collection : List ℕ) (parts : List Part) (part : Part) (time : ℕ) (old rows : List Row) → Pairs Apart old → IsReordering (rows_written collection parts time old) rows
    → IsReordering (rows_written collection (parts ++ part ∷ []) time old) (with_row (row_after_put (row_at collection part.id rows) collection part time) rows)
rows_written-more collection parts part time old rows places r =
    subst (λ left. IsReordering (rows_written collection (parts ++ part ∷ []) time old) left) (rows_written-one collection part time rows)
    (chain (rows_written-one_by_one old collection parts (part ∷ []) time places)
    (rows_written-reordered collection (part ∷ []) time (rows_written collection parts time old) rows r (places-written collection parts time old places)))
