-- The rows after a write of a list: distinct places, and times that the collections allow.
use Rattle.std.specs.Prelude.{◌≡◌, ℕ, ◌≤◌, Bool, true, false, not, ◌&&◌, List, [], ◌∷◌, Option, Some, None, IsSomeAnd}
use Rattle.std.specs.Prelude.{IsFalse, bytes_eq, filter_map, map, refl}
use Rattle.std.proofs.Common.{subst, sym, ap, ◌∙◌, arith}
use Rattle.ss_bso.specs.declared.rows.Row.{Row}
use Rattle.ss_bso.specs.declared.parts.Part.{Part}
use Rattle.ss_bso.specs.Account.{is_at, row_at, time_of}
use Rattle.ss_bso.specs.Put.{row_after_put}
use Rattle.ss_bso.specs.Write.{ids_of, parts_of, is_among, put_all, rows_without, rows_written, times_with}
use Rattle.ss_bso.proofs.Lists.{Each-any, Each-imp, Each-filter, Each-append, Each-passes, Each-find, Each-filter_map}
use Rattle.ss_bso.proofs.Lists.{Pairs-filter, Pairs-append, Pairs-filter_map, find-passes}
use Rattle.ss_bso.specs.Lists.{Apart, Each, Pairs}
use Rattle.ss_laws.proofs.Times.{time_of-with_same, time_of-with_other, item_below, once_by-distinct}
use Rattle.ss_text.proofs.Basics.{and_false, both_left, both_right, neither_left, neither_right, same_text}
use Rattle.ss_text.proofs.Basics.{bytes_eq-same}
use Rattle.std.proofs.lemmas.Bool.{and_from, not-true}

-- a row's collection is listed, with no earlier time
abbrev pub IsItem : List (List ℕ × ℕ) → Row → Type 0
IsItem times row = IsSomeAnd (time_of row.collection times) (λ time. row.modified ≤ time)

-- an old row under the collection's new time
pub item_kept : (times : List (List ℕ × ℕ)) (collection : List ℕ) (time store : ℕ) (row : Row) → store ≤ time → Each (λ (entry : List ℕ × ℕ). entry.1 ≤ store) times → IsItem times row → IsItem (times_with collection time times) row
item_kept times collection time store row later all h =
    elim (bytes_eq row.collection collection) as (λ v. bytes_eq row.collection collection ≡ v → IsItem (times_with collection time times) row) [
      | true ↦ (λ e.
          let same : row.collection ≡ collection = same_text row.collection collection e in
          let here : time_of row.collection (times_with collection time times) ≡ Some time = ap (λ name. time_of name (times_with collection time times)) same ∙ time_of-with_same times collection time in
          let below : row.modified ≤ store = item_below times row.collection row.modified store all h in
          let P : Option ℕ → Type 0 = λ o. IsSomeAnd o (λ t. row.modified ≤ t) in
          let within : row.modified ≤ time = omega arith in
          subst P (sym here) within)
      | false ↦ (λ e.
          let P : Option ℕ → Type 0 = λ o. IsSomeAnd o (λ t. row.modified ≤ t) in
          subst P (sym (time_of-with_other times collection row.collection time e)) h)
    ] refl

-- a row that the write put
pub record IsPut (collection id : List ℕ) (time : ℕ) (row : Row) : Type 0 where
  pub named : row.collection ≡ collection
  pub of : row.id ≡ id
  pub within : row.modified ≤ time

pub item_put : (times : List (List ℕ × ℕ)) (collection id : List ℕ) (time : ℕ) (row : Row) → IsPut collection id time row → IsItem (times_with collection time times) row
item_put times collection id time row h =
    let here : time_of row.collection (times_with collection time times) ≡ Some time = ap (λ name. time_of name (times_with collection time times)) h.named ∙ time_of-with_same times collection time in
    let P : Option ℕ → Type 0 = λ o. IsSomeAnd o (λ t. row.modified ≤ t) in
    subst P (sym here) h.within

abbrev pub OnPut : List ℕ → List ℕ → ℕ → Option Row → Type 0
OnPut collection id time None = Unit {0}
OnPut collection id time (Some row) = IsPut collection id time row

put_all-is : (collection id : List ℕ) (time : ℕ) (parts : List Part) (old : Option Row) → Each (λ (part : Part). part.id ≡ id) parts → OnPut collection id time old → OnPut collection id time (put_all collection parts time old)
put_all-is collection id time [] old e h = h
put_all-is collection id time (part ∷ parts) old e h =
    put_all-is collection id time parts (Some (row_after_put old collection part time)) e.1 (record { named = refl; of = e.0; within = omega arith })

-- the row that stood there
old_is : (collection id : List ℕ) (time store : ℕ) (times : List (List ℕ × ℕ)) (rows : List Row) (old : Option Row) → row_at collection id rows ≡ old → store ≤ time → Each (λ (entry : List ℕ × ℕ). entry.1 ≤ store) times → Each (IsItem times) rows → OnPut collection id time old
old_is collection id time store times rows None e later all items = tt
old_is collection id time store times rows (Some row) e later all items =
    let test = find-passes (is_at collection id) rows row e in
    let item = Each-find (IsItem times) (is_at collection id) rows row e items in
    let below : row.modified ≤ store = item_below times row.collection row.modified store all item in
    record {
      named = same_text row.collection collection (both_left (bytes_eq row.collection collection) (bytes_eq row.id id) test);
      of = same_text row.id id (both_right (bytes_eq row.collection collection) (bytes_eq row.id id) test);
      within = omega arith;
    }

parts_of-named : (id : List ℕ) (parts : List Part) → Each (λ (part : Part). part.id ≡ id) (parts_of id parts)
parts_of-named id parts =
    Each-imp (λ (part : Part). bytes_eq part.id id ≡ true) (λ (part : Part). part.id ≡ id) (λ part h. same_text part.id id h) (parts_of id parts) (Each-passes (λ part. bytes_eq part.id id) parts)

-- what a write makes of an id
abbrev pub made : List ℕ → List Part → ℕ → List Row → List ℕ → Option Row
made collection parts time rows id = put_all collection (parts_of id parts) time (row_at collection id rows)

made_is : (collection : List ℕ) (parts : List Part) (time store : ℕ) (times : List (List ℕ × ℕ)) (rows : List Row) → store ≤ time → Each (λ (entry : List ℕ × ℕ). entry.1 ≤ store) times → Each (IsItem times) rows
    → (id : List ℕ) (row : Row) → made collection parts time rows id ≡ Some row → IsPut collection id time row
made_is collection parts time store times rows later all items id row e =
    let P : Option Row → Type 0 = λ o. OnPut collection id time o in
    subst P e (put_all-is collection id time (parts_of id parts) (row_at collection id rows) (parts_of-named id parts)
    (old_is collection id time store times rows (row_at collection id rows) refl later all items))

-- the items after a write of a list
pub items-written : (collection : List ℕ) (parts : List Part) (time store : ℕ) (times : List (List ℕ × ℕ)) (rows : List Row) → store ≤ time → Each (λ (entry : List ℕ × ℕ). entry.1 ≤ store) times → Each (IsItem times) rows
    → Each (IsItem (times_with collection time times)) (rows_written collection parts time rows)
items-written collection parts time store times rows later all items =
    Each-append (IsItem (times_with collection time times)) (rows_without collection (ids_of parts) rows) (filter_map (made collection parts time rows) (ids_of parts))
    (Each-imp (IsItem times) (IsItem (times_with collection time times)) (λ row h. item_kept times collection time store row later all h) (rows_without collection (ids_of parts) rows)
    (Each-filter (IsItem times) (λ row. not (bytes_eq row.collection collection && is_among (ids_of parts) row.id)) rows items))
    (Each-filter_map (λ (id : List ℕ). Unit {0}) (IsItem (times_with collection time times)) (made collection parts time rows)
    (λ id row _ e. item_put times collection id time row (made_is collection parts time store times rows later all items id row e)) (ids_of parts) (Each-any (ids_of parts)))

-- a row that isn't among the ids stands apart from each that is put for one of them
list_any-false : (id : List ℕ) (ids : List (List ℕ)) → is_among ids id ≡ false → Each (λ (other : List ℕ). bytes_eq other id ≡ false) ids
list_any-false id [] e = tt
list_any-false id (other ∷ ids) e = (neither_left (bytes_eq other id) (is_among ids id) e, list_any-false id ids (neither_right (bytes_eq other id) (is_among ids id) e))

among_apart : (here : Bool) (id : List ℕ) (ids : List (List ℕ)) → (here && is_among ids id) ≡ false → Each (λ (other : List ℕ). (here && bytes_eq other id) ≡ false) ids
among_apart true id ids e = list_any-false id ids e
among_apart false id ids e = Each-imp (λ (other : List ℕ). Unit {0}) (λ (other : List ℕ). (false && bytes_eq other id) ≡ false) (λ other _. refl) ids (Each-any ids)

-- a row that has a place
pub record IsNamed (collection id : List ℕ) (row : Row) : Type 0 where
  pub named : row.collection ≡ collection
  pub of : row.id ≡ id

abbrev OnNamed : List ℕ → List ℕ → Option Row → Type 0
OnNamed collection id None = Unit {0}
OnNamed collection id (Some row) = IsNamed collection id row

put_all-named : (collection id : List ℕ) (time : ℕ) (parts : List Part) (old : Option Row) → Each (λ (part : Part). part.id ≡ id) parts → OnNamed collection id old → OnNamed collection id (put_all collection parts time old)
put_all-named collection id time [] old e h = h
put_all-named collection id time (part ∷ parts) old e h = put_all-named collection id time parts (Some (row_after_put old collection part time)) e.1 (record { named = refl; of = e.0 })

pub row_at-named : (collection id : List ℕ) (rows : List Row) (row : Row) → row_at collection id rows ≡ Some row → IsNamed collection id row
row_at-named collection id rows row e =
    let test = find-passes (is_at collection id) rows row e in
    record {
      named = same_text row.collection collection (both_left (bytes_eq row.collection collection) (bytes_eq row.id id) test);
      of = same_text row.id id (both_right (bytes_eq row.collection collection) (bytes_eq row.id id) test);
    }

old_named : (collection id : List ℕ) (rows : List Row) (old : Option Row) → row_at collection id rows ≡ old → OnNamed collection id old
old_named collection id rows None e = tt
old_named collection id rows (Some row) e = row_at-named collection id rows row e

-- the row that a write makes of an id has its place
pub made_named : (collection : List ℕ) (parts : List Part) (time : ℕ) (rows : List Row) (id : List ℕ) (row : Row) → made collection parts time rows id ≡ Some row → IsNamed collection id row
made_named collection parts time rows id row e =
    let P : Option Row → Type 0 = λ o. OnNamed collection id o in
    subst P e (put_all-named collection id time (parts_of id parts) (row_at collection id rows) (parts_of-named id parts) (old_named collection id rows (row_at collection id rows) refl))

apart_from : (collection id : List ℕ) (row new : Row) → IsNamed collection id new → (bytes_eq row.collection collection && bytes_eq id row.id) ≡ false → Apart row new
apart_from collection id row new h e =
    elim (is_at row.collection row.id new) as (λ v. is_at row.collection row.id new ≡ v → v ≡ false) [
      | true ↦ (λ t.
          let first : new.collection ≡ row.collection = same_text new.collection row.collection (both_left (bytes_eq new.collection row.collection) (bytes_eq new.id row.id) t) in
          let second : new.id ≡ row.id = same_text new.id row.id (both_right (bytes_eq new.collection row.collection) (bytes_eq new.id row.id) t) in
          sym (and_from (bytes_eq row.collection collection) (bytes_eq id row.id) (bytes_eq-same row.collection collection (sym first ∙ h.named)) (bytes_eq-same id row.id (sym h.of ∙ second))) ∙ e)
      | false ↦ (λ t. refl)
    ] refl

-- places stay distinct
pub places-written : (collection : List ℕ) (parts : List Part) (time : ℕ) (rows : List Row) → Pairs Apart rows → Pairs Apart (rows_written collection parts time rows)
places-written collection parts time rows places =
    let ids : List (List ℕ) = ids_of parts in
    let make : List ℕ → Option Row = made collection parts time rows in
    let keep : Row → Bool = λ row. not (bytes_eq row.collection collection && is_among ids row.id) in
    Pairs-append Apart (rows_without collection ids rows) (filter_map make ids)
    (Pairs-filter Apart keep rows places)
    (Pairs-filter_map (λ (id other : List ℕ). IsFalse (bytes_eq other id)) Apart make
    (λ id other row new differ made_row made_new.
    apart_from collection other row new (made_named collection parts time rows other new made_new)
    (ap (λ v. bytes_eq row.collection collection && v) (ap (λ name. bytes_eq other name) (made_named collection parts time rows id row made_row).of ∙ differ) ∙ and_false (bytes_eq row.collection collection)))
    ids (once_by-distinct (λ (id : List ℕ). id) (map (λ part. part.id) parts)))
    (Each-imp (λ (row : Row). keep row ≡ true) (λ (row : Row). Each (Apart row) (filter_map make ids))
    (λ row kept.
    Each-filter_map (λ (id : List ℕ). (bytes_eq row.collection collection && bytes_eq id row.id) ≡ false) (Apart row) make
    (λ id new apart made_new. apart_from collection id row new (made_named collection parts time rows id new made_new) apart) ids
    (among_apart (bytes_eq row.collection collection) row.id ids (not-true (bytes_eq row.collection collection && is_among ids row.id) kept)))
    (rows_without collection ids rows) (Each-passes keep rows))
