-- What a shelf's drawers say of all its rows, and what an edit of one drawer leaves.
use Rattle.std.specs.Prelude.{◌≡◌, ℕ, ◌+◌, ◌*◌, ◌^◌, ◌≤◌, Bool, true, false, not, ◌&&◌, cond, List, [], ◌∷◌, ◌++◌}
use Rattle.std.specs.Prelude.{length, reverse, Some, None, find, filter, bytes_eq, refl}
use Rattle.std.proofs.Common.{sym, ap, subst, ◌∙◌, arith, append_assoc, append-nil, length-append}
use Rattle.std.proofs.lemmas.List.{reverse-append}
use Rattle.std.proofs.lemmas.List.Elements.{filter-append}
use Rattle.std.proofs.lemmas.List.Sums.{sum_by-append, sum_by-cons}
use Rattle.std.specs.Map.{lookup, set_value, keys_of}
use Rattle.ss_text.specs.Texts.{IsReordering, nothing, head, swapped, chain}
use Rattle.ss_bso.specs.declared.rows.Row.{Row}
use Rattle.ss_bso.specs.Account.{is_at, row_at}
use Rattle.ss_bso.specs.Changes.{rows_but}
use Rattle.ss_bso.specs.Limits.{rows_of, row_bytes}
use Rattle.ss_index.specs.Held.{HeldRows, has_id, rows_but_id, HasCountablePayload}
use Rattle.ss_index.specs.Shelved.{rows_in, NamesDrawers, NamesApart, IsShelf}
use Rattle.ss_bso.proofs.Lists.{Each, Each-append, Each-imp, Each-filter}
use Rattle.ss_index.specs.Sweep.{Outlives}
use Rattle.ss_bso.proofs.Reordering.{Each-reordered, reordered-refl, reordered-sym, reordered-append_left}
use Rattle.ss_text.proofs.Basics.{bytes_eq-flip, same_text, bytes_eq-same}

-- ---- lists

pub filter-none : {X : Type 0} (p : X → Bool) (xs : List X) → Each (λ (x : X). p x ≡ false) xs → filter p xs ≡ []
filter-none p [] e = refl
filter-none p (x ∷ xs) e = ap (λ v. cond v (x ∷ filter p xs) (filter p xs)) e.0 ∙ filter-none p xs e.1

pub filter-every : {X : Type 0} (p : X → Bool) (xs : List X) → Each (λ (x : X). p x ≡ true) xs → filter p xs ≡ xs
filter-every p [] e = refl
filter-every p (x ∷ xs) e = ap (λ v. cond v (x ∷ filter p xs) (filter p xs)) e.0 ∙ ap (λ rest. x ∷ rest) (filter-every p xs e.1)

pub filter-same : {X : Type 0} (p q : X → Bool) (xs : List X) → Each (λ (x : X). p x ≡ q x) xs → filter p xs ≡ filter q xs
filter-same p q [] e = refl
filter-same p q (x ∷ xs) e = ap (λ v. cond v (x ∷ filter p xs) (filter p xs)) e.0 ∙ ap (λ rest. cond (q x) (x ∷ rest) rest) (filter-same p q xs e.1)

find-both : {X : Type 0} (p q : X → Bool) (xs : List X) → find (λ x. p x && q x) xs ≡ find q (filter p xs)
find-both p q [] = refl
find-both {X} p q (x ∷ xs) =
    elim (p x) as (λ v. cond (v && q x) (Some x) (find (λ y. p y && q y) xs) ≡ find q (cond v (x ∷ filter p xs) (filter p xs))) [
      | true ↦ ap (λ rest. cond (q x) (Some x) rest) (find-both p q xs)
      | false ↦ find-both p q xs
    ]

-- an element may go to the end
moved_last : {X : Type 0} (xs ys zs : List X) → IsReordering ((xs ++ ys) ++ zs) ((xs ++ zs) ++ ys)
moved_last {X} xs ys zs =
    subst (λ l. IsReordering l ((xs ++ zs) ++ ys)) (sym (append_assoc xs ys zs))
    (subst (λ l. IsReordering (xs ++ (ys ++ zs)) l) (sym (append_assoc xs zs ys)) (reordered-append_left xs (turned ys zs)))
  where
    put_in : (x : X) (us vs : List X) → IsReordering (x ∷ (us ++ vs)) (us ++ x ∷ vs)
    put_in x [] vs = reordered-refl (x ∷ vs)
    put_in x (u ∷ us) vs = chain (swapped x u (us ++ vs)) (head u (put_in x us vs))

    turned : (us vs : List X) → IsReordering (us ++ vs) (vs ++ us)
    turned [] vs = subst (λ l. IsReordering vs l) (sym (append-nil vs)) (reordered-refl vs)
    turned (u ∷ us) vs = chain (head u (turned us vs)) (put_in u vs us)

pub reordered-reverse : {X : Type 0} (xs : List X) → IsReordering xs (reverse xs)
reordered-reverse [] = nothing
reordered-reverse {X} (x ∷ xs) =
    subst (λ l. IsReordering (x ∷ xs) l) (sym (reverse-append (x ∷ []) xs)) (chain (head x (reordered-reverse xs)) (to_end (reverse xs)))
  where
    to_end : (us : List X) → IsReordering (x ∷ us) (us ++ x ∷ [])
    to_end [] = reordered-refl (x ∷ [])
    to_end (u ∷ us) = chain (swapped x u us) (head u (to_end us))

-- ---- the rows of one collection

pub others_named : (collection : List ℕ) (drawers : List (List ℕ × HeldRows)) → Each (λ (name : List ℕ). bytes_eq name collection ≡ false) (keys_of drawers) → NamesDrawers drawers
    → Each (λ (row : Row). bytes_eq row.collection collection ≡ false) (rows_in drawers)
others_named collection [] e n = tt
others_named collection (drawer ∷ drawers) e n =
    Each-append (λ (row : Row). bytes_eq row.collection collection ≡ false) drawer.1.rows (rows_in drawers)
    (Each-imp (λ (row : Row). row.collection ≡ drawer.0) (λ (row : Row). bytes_eq row.collection collection ≡ false) (λ row h. ap (λ name. bytes_eq name collection) h ∙ e.0) drawer.1.rows n.0)
    (others_named collection drawers e.1 n.1)

-- the names of the other drawers, where one has the collection
pub names_beside : (collection name : List ℕ) (names : List (List ℕ)) → bytes_eq collection name ≡ true → Each (λ (other : List ℕ). bytes_eq other name ≡ false) names
    → Each (λ (other : List ℕ). bytes_eq other collection ≡ false) names
names_beside collection name names e h =
    Each-imp (λ (other : List ℕ). bytes_eq other name ≡ false) (λ (other : List ℕ). bytes_eq other collection ≡ false) (λ other f. ap (λ one. bytes_eq other one) (same_text collection name e) ∙ f) names h

pub of_collection : (collection : List ℕ) (drawer : List ℕ × HeldRows) → bytes_eq collection drawer.0 ≡ true → Each (λ (row : Row). row.collection ≡ drawer.0) drawer.1.rows
    → Each (λ (row : Row). bytes_eq row.collection collection ≡ true) drawer.1.rows
of_collection collection drawer e n =
    Each-imp (λ (row : Row). row.collection ≡ drawer.0) (λ (row : Row). bytes_eq row.collection collection ≡ true) (λ row h. bytes_eq-same row.collection collection (h ∙ sym (same_text collection drawer.0 e))) drawer.1.rows n

pub of_another : (collection : List ℕ) (drawer : List ℕ × HeldRows) → bytes_eq collection drawer.0 ≡ false → Each (λ (row : Row). row.collection ≡ drawer.0) drawer.1.rows
    → Each (λ (row : Row). bytes_eq row.collection collection ≡ false) drawer.1.rows
of_another collection drawer e n =
    Each-imp (λ (row : Row). row.collection ≡ drawer.0) (λ (row : Row). bytes_eq row.collection collection ≡ false) (λ row h. ap (λ name. bytes_eq name collection) h ∙ bytes_eq-flip collection drawer.0 e) drawer.1.rows n

pub rows_of-there : (collection : List ℕ) (held : HeldRows) (drawers : List (List ℕ × HeldRows)) → NamesDrawers drawers → NamesApart (keys_of drawers) → lookup (bytes_eq collection) drawers ≡ Some held
    → rows_of collection (rows_in drawers) ≡ held.rows
rows_of-there collection held [] n a e = cc
rows_of-there collection held (drawer ∷ drawers) n a e =
    filter-append (λ row. bytes_eq row.collection collection) drawer.1.rows (rows_in drawers)
    ∙ elim (bytes_eq collection drawer.0) as (λ v. bytes_eq collection drawer.0 ≡ v → cond v (Some drawer.1) (lookup (bytes_eq collection) drawers) ≡ Some held
    → rows_of collection drawer.1.rows ++ rows_of collection (rows_in drawers) ≡ held.rows) [
      | true ↦ (λ t h.
          let same : drawer.1 ≡ held = cc in
          ap (λ l. l ++ rows_of collection (rows_in drawers)) (filter-every (λ row. bytes_eq row.collection collection) drawer.1.rows (of_collection collection drawer t n.0))
          ∙ ap (λ l. drawer.1.rows ++ l) (filter-none (λ row. bytes_eq row.collection collection) (rows_in drawers) (others_named collection drawers (names_beside collection drawer.0 (keys_of drawers) t a.0) n.1))
          ∙ append-nil drawer.1.rows ∙ ap (λ (one : HeldRows). one.rows) same)
      | false ↦ (λ t h.
          ap (λ l. l ++ rows_of collection (rows_in drawers)) (filter-none (λ row. bytes_eq row.collection collection) drawer.1.rows (of_another collection drawer t n.0))
          ∙ rows_of-there collection held drawers n.1 a.1 h)
    ] refl e

pub rows_of-none : (collection : List ℕ) (drawers : List (List ℕ × HeldRows)) → NamesDrawers drawers → lookup (bytes_eq collection) drawers ≡ None → rows_of collection (rows_in drawers) ≡ []
rows_of-none collection [] n e = refl
rows_of-none collection (drawer ∷ drawers) n e =
    filter-append (λ row. bytes_eq row.collection collection) drawer.1.rows (rows_in drawers)
    ∙ elim (bytes_eq collection drawer.0) as (λ v. bytes_eq collection drawer.0 ≡ v → cond v (Some drawer.1) (lookup (bytes_eq collection) drawers) ≡ None
    → rows_of collection drawer.1.rows ++ rows_of collection (rows_in drawers) ≡ []) [
      | true ↦ (λ t h. cc)
      | false ↦ (λ t h.
          ap (λ l. l ++ rows_of collection (rows_in drawers)) (filter-none (λ row. bytes_eq row.collection collection) drawer.1.rows (of_another collection drawer t n.0))
          ∙ rows_of-none collection drawers n.1 h)
    ] refl e

pub row_at-of : (collection id : List ℕ) (rows : List Row) → row_at collection id rows ≡ find (has_id id) (rows_of collection rows)
row_at-of collection id rows = find-both (λ row. bytes_eq row.collection collection) (has_id id) rows

-- ---- an edit of one drawer

-- a place of another collection is nobody's
but_another : (collection id : List ℕ) (rows : List Row) → Each (λ (row : Row). bytes_eq row.collection collection ≡ false) rows → rows_but collection id rows ≡ rows
but_another collection id rows e =
    filter-every (λ row. not (is_at collection id row)) rows
    (Each-imp (λ (row : Row). bytes_eq row.collection collection ≡ false) (λ (row : Row). not (is_at collection id row) ≡ true) (λ row h. ap (λ v. not (v && has_id id row)) h) rows e)

but_own : (collection id : List ℕ) (rows : List Row) → Each (λ (row : Row). bytes_eq row.collection collection ≡ true) rows → rows_but collection id rows ≡ rows_but_id id rows
but_own collection id rows e =
    filter-same (λ row. not (is_at collection id row)) (λ row. not (has_id id row)) rows
    (Each-imp (λ (row : Row). bytes_eq row.collection collection ≡ true) (λ (row : Row). not (is_at collection id row) ≡ not (has_id id row)) (λ row h. ap (λ v. not (v && has_id id row)) h) rows e)

module _ (collection id : List ℕ) (held now : HeldRows) (extra : List Row) (edit : now.rows ≡ rows_but_id id held.rows ++ extra) where
  pub edited : (drawers : List (List ℕ × HeldRows)) → NamesDrawers drawers → NamesApart (keys_of drawers) → lookup (bytes_eq collection) drawers ≡ Some held
      → IsReordering (rows_in (set_value (bytes_eq collection) drawers now)) (rows_but collection id (rows_in drawers) ++ extra)
  edited [] n a e = cc
  edited (drawer ∷ drawers) n a e =
      let but : Row → Bool = λ row. not (is_at collection id row) in
      subst (λ l. IsReordering (rows_in (set_value (bytes_eq collection) (drawer ∷ drawers) now)) (l ++ extra)) (sym (filter-append but drawer.1.rows (rows_in drawers)))
      (elim (bytes_eq collection drawer.0) as (λ v. bytes_eq collection drawer.0 ≡ v → cond v (Some drawer.1) (lookup (bytes_eq collection) drawers) ≡ Some held
      → IsReordering (rows_in (cond v ((drawer.0, now) ∷ drawers) (drawer ∷ set_value (bytes_eq collection) drawers now))) ((rows_but collection id drawer.1.rows ++ rows_but collection id (rows_in drawers)) ++ extra)) [
        | true ↦ (λ t h.
            let same : drawer.1 ≡ held = cc in
            let own : rows_but collection id drawer.1.rows ≡ rows_but_id id held.rows =
            but_own collection id drawer.1.rows (of_collection collection drawer t n.0) ∙ ap (λ (one : HeldRows). rows_but_id id one.rows) same in
            let beside : rows_but collection id (rows_in drawers) ≡ rows_in drawers = but_another collection id (rows_in drawers) (others_named collection drawers (names_beside collection drawer.0 (keys_of drawers) t a.0) n.1) in
            subst (λ l. IsReordering (now.rows ++ rows_in drawers) ((l ++ rows_but collection id (rows_in drawers)) ++ extra)) (sym own)
            (subst (λ l. IsReordering (now.rows ++ rows_in drawers) ((rows_but_id id held.rows ++ l) ++ extra)) (sym beside)
            (subst (λ l. IsReordering (l ++ rows_in drawers) ((rows_but_id id held.rows ++ rows_in drawers) ++ extra)) (sym edit) (moved_last (rows_but_id id held.rows) extra (rows_in drawers)))))
        | false ↦ (λ t h.
            let other : rows_but collection id drawer.1.rows ≡ drawer.1.rows = but_another collection id drawer.1.rows (of_another collection drawer t n.0) in
            subst (λ l. IsReordering (drawer.1.rows ++ rows_in (set_value (bytes_eq collection) drawers now)) ((l ++ rows_but collection id (rows_in drawers)) ++ extra)) (sym other)
            (subst (λ l. IsReordering (drawer.1.rows ++ rows_in (set_value (bytes_eq collection) drawers now)) l) (sym (append_assoc drawer.1.rows (rows_but collection id (rows_in drawers)) extra))
            (reordered-append_left drawer.1.rows (edited drawers n.1 a.1 h))))
      ] refl e)

-- where no drawer has the name, no row has it
pub none_named : (collection : List ℕ) (ds : List (List ℕ × HeldRows)) → NamesDrawers ds → lookup (bytes_eq collection) ds ≡ None → Each (λ (row : Row). bytes_eq row.collection collection ≡ false) (rows_in ds)
none_named collection [] m f = tt
none_named collection (d ∷ ds) m f =
    elim (bytes_eq collection d.0) as (λ v. bytes_eq collection d.0 ≡ v → cond v (Some d.1) (lookup (bytes_eq collection) ds) ≡ None → Each (λ (row : Row). bytes_eq row.collection collection ≡ false) (d.1.rows ++ rows_in ds)) [
      | true ↦ (λ t h. cc)
      | false ↦ (λ t h. Each-append (λ (row : Row). bytes_eq row.collection collection ≡ false) d.1.rows (rows_in ds) (of_another collection d t m.0) (none_named collection ds m.1 h))
    ] refl f

-- a drawer that isn't there
pub edited_none : (collection id : List ℕ) (drawers : List (List ℕ × HeldRows)) → NamesDrawers drawers → lookup (bytes_eq collection) drawers ≡ None → IsReordering (rows_in drawers) (rows_but collection id (rows_in drawers))
edited_none collection id drawers n e =
    subst (λ l. IsReordering (rows_in drawers) l) (sym (but_another collection id (rows_in drawers) (none_named collection drawers n e))) (reordered-refl (rows_in drawers))

pub named-edited : (collection : List ℕ) (now : HeldRows) (drawers : List (List ℕ × HeldRows)) → NamesDrawers drawers → Each (λ (row : Row). row.collection ≡ collection) now.rows → NamesDrawers (set_value (bytes_eq collection) drawers now)
named-edited collection now [] n e = tt
named-edited collection now (drawer ∷ drawers) n e =
    elim (bytes_eq collection drawer.0) as (λ v. bytes_eq collection drawer.0 ≡ v → NamesDrawers (cond v ((drawer.0, now) ∷ drawers) (drawer ∷ set_value (bytes_eq collection) drawers now))) [
      | true ↦ (λ t. (Each-imp (λ (row : Row). row.collection ≡ collection) (λ (row : Row). row.collection ≡ drawer.0) (λ row h. h ∙ same_text collection drawer.0 t) now.rows e, n.1))
      | false ↦ (λ t. (n.0, named-edited collection now drawers n.1 e))
    ] refl

-- the rows of a drawer are of its collection
pub held_named : (collection : List ℕ) (held : HeldRows) (drawers : List (List ℕ × HeldRows)) → NamesDrawers drawers → lookup (bytes_eq collection) drawers ≡ Some held → Each (λ (row : Row). row.collection ≡ collection) held.rows
held_named collection held [] n e = cc
held_named collection held (drawer ∷ drawers) n e =
    elim (bytes_eq collection drawer.0) as (λ v. bytes_eq collection drawer.0 ≡ v → cond v (Some drawer.1) (lookup (bytes_eq collection) drawers) ≡ Some held → Each (λ (row : Row). row.collection ≡ collection) held.rows) [
      | true ↦ (λ t h.
          let same : drawer.1 ≡ held = cc in
          subst (λ (one : HeldRows). Each (λ (row : Row). row.collection ≡ collection) one.rows) same
          (Each-imp (λ (row : Row). row.collection ≡ drawer.0) (λ (row : Row). row.collection ≡ collection) (λ row k. k ∙ sym (same_text collection drawer.0 t)) drawer.1.rows n.0))
      | false ↦ (λ t h. held_named collection held drawers n.1 h)
    ] refl e

-- a count over the rows after a drawer was edited
module _ (count : List Row → ℕ) (adds : (xs ys : List Row) → count (xs ++ ys) ≡ count xs + count ys) (collection : List ℕ) (held now : HeldRows) where
  pub counted : (drawers : List (List ℕ × HeldRows)) → lookup (bytes_eq collection) drawers ≡ Some held
      → count (rows_in (set_value (bytes_eq collection) drawers now)) + count held.rows ≡ count (rows_in drawers) + count now.rows
  counted [] e = cc
  counted (drawer ∷ drawers) e =
      elim (bytes_eq collection drawer.0) as (λ v. cond v (Some drawer.1) (lookup (bytes_eq collection) drawers) ≡ Some held
      → count (rows_in (cond v ((drawer.0, now) ∷ drawers) (drawer ∷ set_value (bytes_eq collection) drawers now))) + count held.rows ≡ count (drawer.1.rows ++ rows_in drawers) + count now.rows) [
        | true ↦ (λ h.
            let same : count drawer.1.rows ≡ count held.rows = ap (λ (one : HeldRows). count one.rows) (some_held drawer.1 held h) in
            omega (arith, same, adds drawer.1.rows (rows_in drawers), adds now.rows (rows_in drawers)))
        | false ↦ (λ h. omega (arith, counted drawers h, adds drawer.1.rows (rows_in drawers), adds drawer.1.rows (rows_in (set_value (bytes_eq collection) drawers now))))
      ] e
    where
      some_held : (a b : HeldRows) → Some a ≡ Some b → a ≡ b
      some_held a b h = cc

pub len-adds : (xs ys : List Row) → length (xs ++ ys) ≡ length xs + length ys
len-adds xs ys = length-append xs ys

pub bytes-adds : (xs ys : List Row) → row_bytes (xs ++ ys) ≡ row_bytes xs + row_bytes ys
bytes-adds xs ys = sum_by-append (λ (row : Row). length row.payload) xs ys

pub weaker_ends : (ends fewer : ℕ) (row : Row) → fewer ≤ ends → Outlives ends row → Outlives fewer row
weaker_ends ends fewer row le h moment lt = h moment (omega arith)

-- a drawer is no larger than the shelf
pub counted_within : (count : List Row → ℕ) → ((xs ys : List Row) → count (xs ++ ys) ≡ count xs + count ys) → (collection : List ℕ) (held : HeldRows) (drawers : List (List ℕ × HeldRows)) → lookup (bytes_eq collection) drawers ≡ Some held
    → count held.rows ≤ count (rows_in drawers)
counted_within count adds collection held drawers e =
    let empty : HeldRows = record { rows = []; spare = 0 } in
    omega (arith, counted count adds collection held empty drawers e, adds [] [])

module _ {drawers : List (List ℕ × HeldRows)} {len total ends : ℕ} (shelf : IsShelf drawers len total ends) (collection id : List ℕ) (held now : HeldRows) (extra : List Row) (after : List (List ℕ × HeldRows))
    (there : lookup (bytes_eq collection) drawers ≡ Some held) (set : after ≡ set_value (bytes_eq collection) drawers now) (edit : now.rows ≡ rows_but_id id held.rows ++ extra) where
  pub edit_rows : IsReordering (rows_in after) (rows_but collection id (rows_in drawers) ++ extra)
  edit_rows = subst (λ l. IsReordering (rows_in l) (rows_but collection id (rows_in drawers) ++ extra)) (sym set) (edited collection id held now extra edit drawers shelf.named shelf.names there)

  pub edit_shelf : (len_now total_now ends_now : ℕ) → keys_of after ≡ keys_of drawers → Each (λ (row : Row). row.collection ≡ collection) extra → len_now + length held.rows ≡ len + length now.rows
      → total_now + row_bytes held.rows ≡ total + row_bytes now.rows → ends_now ≤ ends → Each (Outlives ends_now) extra → Each HasCountablePayload extra → IsShelf after len_now total_now ends_now
  edit_shelf len_now total_now ends_now keys own len_is total_is sooner out sized = record {
    named = subst (λ l. NamesDrawers l) (sym set) (named-edited collection now drawers shelf.named
        (subst (λ l. Each (λ (row : Row). row.collection ≡ collection) l) (sym edit)
        (Each-append (λ (row : Row). row.collection ≡ collection) (rows_but_id id held.rows) extra
        (Each-filter (λ (row : Row). row.collection ≡ collection) (λ row. not (has_id id row)) held.rows (held_named collection held drawers shelf.named there)) own)));
    names = subst (λ l. NamesApart l) (sym keys) shelf.names;
    len_counts = omega (arith, len_is, shelf.len_counts, ap (λ l. length (rows_in l)) set, counted (λ l. length l) len-adds collection held now drawers there);
    total_counts = omega (arith, total_is, shelf.total_counts, ap (λ l. row_bytes (rows_in l)) set, counted row_bytes bytes-adds collection held now drawers there);
    sizes = Each-reordered HasCountablePayload (reordered-sym edit_rows)
        (Each-append HasCountablePayload (rows_but collection id (rows_in drawers)) extra (Each-filter HasCountablePayload (λ row. not (is_at collection id row)) (rows_in drawers) shelf.sizes) sized);
    outlive = Each-reordered (Outlives ends_now) (reordered-sym edit_rows)
        (Each-append (Outlives ends_now) (rows_but collection id (rows_in drawers)) extra
        (Each-filter (Outlives ends_now) (λ row. not (is_at collection id row)) (rows_in drawers)
        (Each-imp (Outlives ends) (Outlives ends_now) (λ row h. weaker_ends ends ends_now row sooner h) (rows_in drawers) shelf.outlive)) out);
  }

pub shelf_len_within : {drawers : List (List ℕ × HeldRows)} {len total ends : ℕ} (shelf : IsShelf drawers len total ends) (collection : List ℕ) (held : HeldRows) → lookup (bytes_eq collection) drawers ≡ Some held → length held.rows ≤ len
shelf_len_within {drawers} shelf collection held there = omega (arith, shelf.len_counts, counted_within (λ l. length l) len-adds collection held drawers there)

pub shelf_total_within : {drawers : List (List ℕ × HeldRows)} {len total ends : ℕ} (shelf : IsShelf drawers len total ends) (collection : List ℕ) (held : HeldRows) → lookup (bytes_eq collection) drawers ≡ Some held → row_bytes held.rows ≤ total
shelf_total_within {drawers} shelf collection held there = omega (arith, shelf.total_counts, counted_within row_bytes bytes-adds collection held drawers there)

-- rows that can be counted are not too many bytes
bytes-within : (rows : List Row) → Each HasCountablePayload rows → row_bytes rows ≤ 2 ^ 64 * length rows
bytes-within [] e = omega arith
bytes-within (row ∷ rows) e = omega (arith, bytes-within rows e.1, e.0, sum_by-cons (λ (one : Row). length one.payload) row rows)

pub shelf_bytes : {drawers : List (List ℕ × HeldRows)} {len total ends : ℕ} (shelf : IsShelf drawers len total ends) → total ≤ 2 ^ 64 * len
shelf_bytes {drawers} shelf = omega (arith, shelf.total_counts, shelf.len_counts, bytes-within (rows_in drawers) shelf.sizes)
