-- Collections that are dropped.
use Rattle.std.specs.Prelude.{◌≡◌, ℕ, ◌+◌, ◌-◌, ◌<◌, ◌≤◌, Bool, true, false, not, ◌||◌, cond, List, [], ◌∷◌, ◌++◌}
use Rattle.std.specs.Prelude.{length, take, get_or, fold, filter, Some, None, bytes_eq, refl}
use Rattle.std.proofs.Common.{sym, ap, subst, ◌∙◌, arith}
use Rattle.std.proofs.lemmas.List.{take_more}
use Rattle.std.proofs.lemmas.List.Elements.{filter-append}
use Rattle.std.specs.List.{list_any}
use Rattle.std.specs.Option.{option_to_list}
use Rattle.std.specs.Map.{lookup, set_value, keys_of}
use Rattle.ss_bso.specs.declared.rows.Row.{Row}
use Rattle.ss_bso.specs.declared.changes.CollectionChange.{CollectionChange}
use Rattle.ss_bso.specs.declared.changes.CollectionChange.TheVariants as collection
use Rattle.ss_bso.specs.Account.{is_alive}
use Rattle.ss_bso.specs.Changes.{kept_after_changes, drops, row_changed}
use Rattle.ss_bso.specs.declared.changes.Changes.{Changes}
use Rattle.ss_bso.specs.declared.changes.Kept.{Kept}
use Rattle.ss_index.specs.declared.ready.Ready.{Ready}
use Rattle.ss_bso.specs.Limits.{row_bytes}
use Rattle.ss_index.specs.Held.{HeldRows, HasCountablePayload}
use Rattle.ss_index.specs.Shelved.{rows_in, rows_without, dropped_name, dropped_names, NamesDrawers, NamesApart}
use Rattle.ss_index.specs.Shelved.{IsShelf}
use Rattle.ss_index.specs.Ready.{rows_after_ready, changes_of, rows_left, IsReady}
use Rattle.ss_index.specs.Sweep.{Outlives}
use Rattle.ss_bso.proofs.Lists.{Each, Each-filter, Each-imp}
use Rattle.ss_index.proofs.Shelves.{filter-none, filter-every, of_collection, of_another, others_named, names_beside}
use Rattle.ss_index.proofs.Shelves.{named-edited, counted, len-adds, bytes-adds, none_named}
use Rattle.ss_text.proofs.Basics.{bytes_eq-sym, length-filter_le, filter_map-push}

pub without_in : (name : List ℕ) (held now : HeldRows) → now.rows ≡ [] → (drawers : List (List ℕ × HeldRows)) → NamesDrawers drawers → NamesApart (keys_of drawers) → lookup (bytes_eq name) drawers ≡ Some held
    → rows_in (set_value (bytes_eq name) drawers now) ≡ rows_without (rows_in drawers) name
without_in name held now none [] n a e = cc
without_in name held now none (drawer ∷ drawers) n a e =
    let other : Row → Bool = λ row. not (bytes_eq row.collection name) in
    elim (bytes_eq name drawer.0) as (λ v. bytes_eq name drawer.0 ≡ v → cond v (Some drawer.1) (lookup (bytes_eq name) drawers) ≡ Some held
    → rows_in (cond v ((drawer.0, now) ∷ drawers) (drawer ∷ set_value (bytes_eq name) drawers now)) ≡ filter other drawer.1.rows ++ filter other (rows_in drawers)) [
      | true ↦ (λ t h.
          ap (λ l. l ++ rows_in drawers) none
          ∙ ap (λ l. l ++ rows_in drawers) (sym (filter-none other drawer.1.rows (Each-imp (λ (row : Row). bytes_eq row.collection name ≡ true) (λ (row : Row). other row ≡ false) (λ row k. ap not k) drawer.1.rows (of_collection name drawer t n.0))))
          ∙ ap (λ l. filter other drawer.1.rows ++ l) (sym (filter-every other (rows_in drawers)
          (Each-imp (λ (row : Row). bytes_eq row.collection name ≡ false) (λ (row : Row). other row ≡ true) (λ row k. ap not k) (rows_in drawers)
          (others_named name drawers (names_beside name drawer.0 (keys_of drawers) t a.0) n.1)))))
      | false ↦ (λ t h.
          ap (λ l. drawer.1.rows ++ l) (without_in name held now none drawers n.1 a.1 h)
          ∙ ap (λ l. l ++ filter other (rows_in drawers)) (sym (filter-every other drawer.1.rows
          (Each-imp (λ (row : Row). bytes_eq row.collection name ≡ false) (λ (row : Row). other row ≡ true) (λ row k. ap not k) drawer.1.rows (of_another name drawer t n.0)))))
    ] refl e
    ∙ sym (filter-append other drawer.1.rows (rows_in drawers))

pub without_none : (name : List ℕ) (drawers : List (List ℕ × HeldRows)) → NamesDrawers drawers → lookup (bytes_eq name) drawers ≡ None → rows_in drawers ≡ rows_without (rows_in drawers) name
without_none name drawers n e =
    sym (filter-every (λ row. not (bytes_eq row.collection name)) (rows_in drawers)
    (Each-imp (λ (row : Row). bytes_eq row.collection name ≡ false) (λ (row : Row). not (bytes_eq row.collection name) ≡ true) (λ row k. ap not k) (rows_in drawers) (none_named name drawers n e)))

pub cleared : {drawers : List (List ℕ × HeldRows)} {len total ends : ℕ} (shelf : IsShelf drawers len total ends) (name : List ℕ) (held now : HeldRows) (after : List (List ℕ × HeldRows)) → lookup (bytes_eq name) drawers ≡ Some held
    → after ≡ set_value (bytes_eq name) drawers now → keys_of after ≡ keys_of drawers → now.rows ≡ [] → IsShelf after (len - length held.rows) (total - row_bytes held.rows) ends
cleared {drawers} {len} {total} {ends} shelf name held now after e set keys none =
    let no_rows : ◌≡◌ {A = ℕ} (length now.rows) 0 = ap (λ l. length l) none in
    let no_bytes : ◌≡◌ {A = ℕ} (row_bytes now.rows) 0 = ap (λ l. row_bytes l) none in
    record {
      named = subst (λ l. NamesDrawers l) (sym set) (named-edited name now drawers shelf.named (subst (λ l. Each (λ (row : Row). row.collection ≡ name) l) (sym none) tt));
      names = subst (λ l. NamesApart l) (sym keys) shelf.names;
      len_counts = omega (arith, no_rows, shelf.len_counts, ap (λ l. length (rows_in l)) set, counted (λ l. length l) len-adds name held now drawers e);
      total_counts = omega (arith, no_bytes, shelf.total_counts, ap (λ l. row_bytes (rows_in l)) set, counted row_bytes bytes-adds name held now drawers e);
      sizes = subst (λ l. Each HasCountablePayload l) (sym (ap (λ l. rows_in l) set ∙ without_in name held now none drawers shelf.named shelf.names e))
          (Each-filter HasCountablePayload (λ row. not (bytes_eq row.collection name)) (rows_in drawers) shelf.sizes);
      outlive = subst (λ l. Each (Outlives ends) l) (sym (ap (λ l. rows_in l) set ∙ without_in name held now none drawers shelf.named shelf.names e))
          (Each-filter (Outlives ends) (λ row. not (bytes_eq row.collection name)) (rows_in drawers) shelf.outlive);
    }

-- ---- names, one after the other

fold-push : {A X : Type 0} (f : A → X → A) (a : A) (xs : List X) (x : X) → fold f a (xs ++ x ∷ []) ≡ f (fold f a xs) x
fold-push f a [] x = refl
fold-push f a (y ∷ ys) x = fold-push f (f a y) ys x

pub left_more : (names : List (List ℕ)) (i : ℕ) (name : List ℕ) (rows now after : List Row) → i < length names → name ≡ get_or names i name → now ≡ rows_left (take i names) rows → after ≡ rows_without now name → after ≡ rows_left (take (i + 1) names) rows
left_more names i name rows now after lt is so_far this =
    let cut : take (i + 1) names ≡ take i names ++ name ∷ [] = take_more names i name lt ∙ ap (λ one. take i names ++ one ∷ []) (sym is) in
    this ∙ ap (λ l. rows_without l name) so_far ∙ sym (ap (λ l. rows_left l rows) cut ∙ fold-push rows_without rows (take i names) name)

pub dropped_more : (changes : List CollectionChange) (i : ℕ) (change : CollectionChange) (now after : List (List ℕ)) → i < length changes → change ≡ get_or changes i change → now ≡ dropped_names (take i changes)
    → after ≡ now ++ option_to_list (dropped_name change) → after ≡ dropped_names (take (i + 1) changes)
dropped_more changes i change now after lt is so_far this =
    let cut : take (i + 1) changes ≡ take i changes ++ change ∷ [] = take_more changes i change lt ∙ ap (λ one. take i changes ++ one ∷ []) (sym is) in
    this ∙ ap (λ l. l ++ option_to_list (dropped_name change)) so_far ∙ sym (ap (λ l. dropped_names l) cut ∙ filter_map-push dropped_name (take i changes) change)

-- ---- what is left is the keepers' own

filter-filter : {X : Type 0} (p q : X → Bool) (xs : List X) → filter (λ x. not (p x || q x)) xs ≡ filter (λ x. not (q x)) (filter (λ x. not (p x)) xs)
filter-filter p q [] = refl
filter-filter {X} p q (x ∷ xs) =
    let left : List X = filter (λ y. not (p y)) xs in
    elim (p x) as (λ v. cond (not (v || q x)) (x ∷ filter (λ y. not (p y || q y)) xs) (filter (λ y. not (p y || q y)) xs) ≡ filter (λ y. not (q y)) (cond (not v) (x ∷ left) left)) [
      | true ↦ filter-filter p q xs
      | false ↦ ap (λ l. cond (not (q x)) (x ∷ l) l) (filter-filter p q xs)
    ]

filter-pointwise : {X : Type 0} (p q : X → Bool) (xs : List X) → ((x : X) → p x ≡ q x) → filter p xs ≡ filter q xs
filter-pointwise p q [] h = refl
filter-pointwise p q (x ∷ xs) h = ap (λ v. cond v (x ∷ filter p xs) (filter p xs)) (h x) ∙ ap (λ rest. cond (q x) (x ∷ rest) rest) (filter-pointwise p q xs h)

pub left_is : (changes : List CollectionChange) (rows : List Row) → rows_left (dropped_names changes) rows ≡ filter (λ row. not (list_any (drops row.collection) changes)) rows
left_is [] rows = sym (filter-every (λ row. true) rows (all rows))
  where
    all : (xs : List Row) → Each (λ (row : Row). true ≡ true) xs
    all [] = tt
    all (x ∷ xs) = (refl, all xs)
left_is (collection.Drop name ∷ changes) rows =
    left_is changes (rows_without rows name)
    ∙ ap (λ l. filter (λ row. not (list_any (drops row.collection) changes)) l) (filter-pointwise (λ row. not (bytes_eq row.collection name)) (λ row. not (bytes_eq name row.collection)) rows (λ row. ap not (bytes_eq-sym row.collection name)))
    ∙ sym (filter-filter (λ row. bytes_eq name row.collection) (λ row. list_any (drops row.collection) changes) rows)
left_is (collection.Set name time ∷ changes) rows = left_is changes rows

pub left_number : (names : List (List ℕ)) (rows : List Row) → length (rows_left names rows) ≤ length rows
left_number [] rows = omega arith
left_number (name ∷ names) rows = omega (arith, left_number names (rows_without rows name), length-filter_le (λ row. not (bytes_eq row.collection name)) rows)

-- what is applied is what the keepers make of the changes
pub applied_is : (ready : Ready) (changes : Changes) (kept : Kept) (drawers : List (List ℕ × HeldRows)) → IsReady ready changes drawers → kept.rows ≡ rows_in drawers → rows_after_ready ready (rows_in drawers) ≡ (kept_after_changes kept changes).rows
applied_is ready changes kept drawers is same =
    ap (λ m. fold row_changed (rows_left ready.dropped.items (filter (is_alive m) (rows_in drawers))) (changes_of ready.rows.items)) is.moment
    ∙ ap (λ names. fold row_changed (rows_left names (filter (is_alive changes.moment) (rows_in drawers))) (changes_of ready.rows.items)) is.dropped
    ∙ ap (λ l. fold row_changed (rows_left (dropped_names changes.collections) (filter (is_alive changes.moment) (rows_in drawers))) l) is.rows
    ∙ ap (λ l. fold row_changed l changes.rows) (left_is changes.collections (filter (is_alive changes.moment) (rows_in drawers)))
    ∙ ap (λ l. fold row_changed (filter (λ row. not (list_any (drops row.collection) changes.collections)) (filter (is_alive changes.moment) l)) changes.rows) (sym same)
