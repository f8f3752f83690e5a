-- Changes of rows, one after the other.
use Rattle.std.specs.Prelude.{◌≡◌, ℕ, zero, suc, take, get_or, IsFalse, ◌+◌, ◌<◌, ◌≤◌, Bool, true, false, not, cond}
use Rattle.std.specs.Prelude.{List, [], ◌∷◌, ◌++◌, length, fold, Some, None, bytes_eq, refl}
use Rattle.std.proofs.Common.{sym, ap, subst, ◌∙◌, arith, length-append}
use Rattle.std.proofs.lemmas.List.{take_all}
use Rattle.std.specs.Map.{lookup, set_value, keys_of}
use Rattle.std.specs.Option.{option_map_or}
use Rattle.ss_text.specs.Texts.{IsReordering}
use Rattle.ss_bso.specs.declared.rows.Row.{Row}
use Rattle.ss_bso.specs.declared.changes.RowChange.{RowChange}
use Rattle.ss_bso.specs.declared.changes.RowChange.TheVariants as row
use Rattle.ss_bso.specs.Account.{is_at}
use Rattle.ss_bso.specs.Changes.{row_changed, rows_but}
use Rattle.ss_bso.specs.Limits.{row_bytes}
use Rattle.ss_index.specs.Held.{HeldRows, HasCountablePayload}
use Rattle.ss_index.specs.Shelved.{rows_in, NamesDrawers, NamesApart, IsShelf}
use Rattle.ss_index.specs.declared.ready.ReadyRow.{ReadyRow}
use Rattle.ss_index.specs.Ready.{change_of, changes_of, spare_of, puts_in, IsLast, InTime, CanChange}
use Rattle.ss_index.specs.Sweep.{Outlives}
use Rattle.ss_bso.proofs.Lists.{Each, Each-append, Each-imp, Pairs-append}
use Rattle.ss_index.proofs.Shelves.{named-edited, held_named}
use Rattle.ss_bso.proofs.Reordering.{reordered-sym, reordered-append_right, reordered-filter, length-reordered}
use Rattle.ss_bso.proofs.Reordering.{Each-reordered}
use Rattle.ss_text.proofs.Basics.{bytes_eq-flip, same_text, bytes_eq-same, take_push, length-filter_le}

pub row_changed-reordered : (change : RowChange) {rows others : List Row} → IsReordering rows others → IsReordering (row_changed rows change) (row_changed others change)
row_changed-reordered (row.Put new) r = reordered-append_right (new ∷ []) (reordered-filter (λ one. not (is_at new.collection new.id one)) r)
row_changed-reordered (row.Drop collection id) r = reordered-filter (λ one. not (is_at collection id one)) r

pub fold-reordered : (changes : List RowChange) {rows others : List Row} → IsReordering rows others → IsReordering (fold row_changed rows changes) (fold row_changed others changes)
fold-reordered [] r = r
fold-reordered (change ∷ changes) r = fold-reordered changes (row_changed-reordered change r)

is_last-reordered : (change : RowChange) {rows others : List Row} → IsReordering rows others → IsLast rows change → IsLast others change
is_last-reordered (row.Put new) r h = Each-reordered (λ (other : Row). other.modified ≤ new.modified) (reordered-filter (λ one. bytes_eq one.collection new.collection) r) h
is_last-reordered (row.Drop collection id) r h = tt

pub in_time-reordered : (changes : List RowChange) {rows others : List Row} → IsReordering rows others → InTime rows changes → InTime others changes
in_time-reordered [] r h = tt
in_time-reordered (change ∷ changes) r h = (is_last-reordered change r h.0, in_time-reordered changes (row_changed-reordered change r) h.1)

changed_length : (change : RowChange) (rows : List Row) → length (row_changed rows change) ≤ length rows + 1
changed_length (row.Put new) rows = omega (arith, length-append (rows_but new.collection new.id rows) (new ∷ []), length-filter_le (λ one. not (is_at new.collection new.id one)) rows)
changed_length (row.Drop collection id) rows = omega (arith, length-filter_le (λ one. not (is_at collection id one)) rows)

puts_in-cons : (collection : List ℕ) (change : RowChange) (changes : List RowChange) → puts_in collection (change ∷ changes) ≡ puts_in collection (change ∷ []) + puts_in collection changes
puts_in-cons collection (row.Put new) changes = omega arith
puts_in-cons collection (row.Drop name id) changes = omega arith

-- the first of changes can be made
pub can_first : {drawers : List (List ℕ × HeldRows)} (change : RowChange) (changes : List RowChange) → CanChange drawers (change ∷ changes) → CanChange drawers (change ∷ [])
can_first change changes can = record {
  room = λ collection. omega (arith, can.room collection, puts_in-cons collection change changes);
  times = (can.times.0, tt);
  number = omega (arith, can.number);
}

-- once it is made, so can the others
pub can_rest : {drawers : List (List ℕ × HeldRows)} (after : List (List ℕ × HeldRows)) (change : RowChange) (changes : List RowChange) → CanChange drawers (change ∷ changes) → IsReordering (rows_in after) (row_changed (rows_in drawers) change)
    → ((collection : List ℕ) → spare_of collection drawers ≤ spare_of collection after + puts_in collection (change ∷ [])) → CanChange after changes
can_rest {drawers} after change changes can made room = record {
  room = λ collection. omega (arith, can.room collection, room collection, puts_in-cons collection change changes);
  times = in_time-reordered changes (reordered-sym made) can.times.1;
  number = omega (arith, can.number, changed_length change (rows_in drawers), length-reordered made);
}

-- ---- room

-- another value in one drawer
pub spare-edited : (collection : List ℕ) (held now : HeldRows) (drawers : List (List ℕ × HeldRows)) (name : List ℕ) → lookup (bytes_eq collection) drawers ≡ Some held
    → lookup (bytes_eq name) (set_value (bytes_eq collection) drawers now) ≡ cond (bytes_eq name collection) (Some now) (lookup (bytes_eq name) drawers)
spare-edited collection held now [] name e = cc
spare-edited collection held now (drawer ∷ drawers) name e =
    elim (bytes_eq collection drawer.0) as (λ v. bytes_eq collection drawer.0 ≡ v → cond v (Some drawer.1) (lookup (bytes_eq collection) drawers) ≡ Some held
    → lookup (bytes_eq name) (cond v ((drawer.0, now) ∷ drawers) (drawer ∷ set_value (bytes_eq collection) drawers now))
    ≡ cond (bytes_eq name collection) (Some now) (cond (bytes_eq name drawer.0) (Some drawer.1) (lookup (bytes_eq name) drawers))) [
      | true ↦ (λ t h.
          let same : bytes_eq name drawer.0 ≡ bytes_eq name collection = ap (λ one. bytes_eq name one) (sym (same_text collection drawer.0 t)) in
          elim (bytes_eq name collection) as (λ v. bytes_eq name drawer.0 ≡ v → cond (bytes_eq name drawer.0) (Some now) (lookup (bytes_eq name) drawers) ≡ cond v (Some now) (cond (bytes_eq name drawer.0) (Some drawer.1) (lookup (bytes_eq name) drawers))) [
            | true ↦ (λ s. ap (λ v. cond v (Some now) (lookup (bytes_eq name) drawers)) s)
            | false ↦ (λ s. ap (λ v. cond v (Some now) (lookup (bytes_eq name) drawers)) s ∙ sym (ap (λ v. cond v (Some drawer.1) (lookup (bytes_eq name) drawers)) s))
          ] same)
      | false ↦ (λ t h.
          elim (bytes_eq name drawer.0) as (λ v. bytes_eq name drawer.0 ≡ v → cond v (Some drawer.1) (lookup (bytes_eq name) (set_value (bytes_eq collection) drawers now))
          ≡ cond (bytes_eq name collection) (Some now) (cond v (Some drawer.1) (lookup (bytes_eq name) drawers))) [
            | true ↦ (λ s.
                let other : bytes_eq name collection ≡ false = ap (λ one. bytes_eq one collection) (same_text name drawer.0 s) ∙ bytes_eq-flip collection drawer.0 t in
                sym (ap (λ v. cond v (Some now) (Some drawer.1)) other))
            | false ↦ (λ s. spare-edited collection held now drawers name h)
          ] refl)
    ] refl e

-- where a drawer has so many fewer, so has the shelf
pub room-edited : (collection : List ℕ) (held now : HeldRows) (drawers after : List (List ℕ × HeldRows)) (n : ℕ) → lookup (bytes_eq collection) drawers ≡ Some held → after ≡ set_value (bytes_eq collection) drawers now
    → held.spare ≤ now.spare + n → (name : List ℕ) → spare_of name drawers ≤ spare_of name after + cond (bytes_eq name collection) n 0
room-edited collection held now drawers after n e set fewer name =
    let value : lookup (bytes_eq name) after ≡ cond (bytes_eq name collection) (Some now) (lookup (bytes_eq name) drawers) = ap (λ l. lookup (bytes_eq name) l) set ∙ spare-edited collection held now drawers name e in
    let same : spare_of name after ≡ option_map_or (λ (one : HeldRows). one.spare) (cond (bytes_eq name collection) (Some now) (lookup (bytes_eq name) drawers)) 0 = ap (λ o. option_map_or (λ (one : HeldRows). one.spare) o 0) value in
    elim (bytes_eq name collection) as (λ v. bytes_eq name collection ≡ v → spare_of name after ≡ option_map_or (λ (one : HeldRows). one.spare) (cond v (Some now) (lookup (bytes_eq name) drawers)) 0 → spare_of name drawers ≤ spare_of name after + cond v n 0) [
      | true ↦ (λ t s.
          let here : lookup (bytes_eq name) drawers ≡ Some held = ap (λ one. lookup (bytes_eq one) drawers) (same_text name collection t) ∙ e in
          let old : spare_of name drawers ≡ held.spare = ap (λ o. option_map_or (λ (one : HeldRows). one.spare) o 0) here in
          omega (arith, old, s, fewer))
      | false ↦ (λ t s. omega (arith, s))
    ] refl same

-- a drawer with room is there
pub room_there : (collection : List ℕ) (drawers : List (List ℕ × HeldRows)) → 0 < spare_of collection drawers → (held : HeldRows) → lookup (bytes_eq collection) drawers ≡ Some held → 0 < held.spare
room_there collection drawers h held e = let same : spare_of collection drawers ≡ held.spare = ap (λ o. option_map_or (λ (one : HeldRows). one.spare) o 0) e in omega (arith, same, h)

pub room_not_none : (collection : List ℕ) (drawers : List (List ℕ × HeldRows)) → 0 < spare_of collection drawers → lookup (bytes_eq collection) drawers ≡ None → ⊥
room_not_none collection drawers h e = let same : ◌≡◌ {A = ℕ} (spare_of collection drawers) 0 = ap (λ o. option_map_or (λ (one : HeldRows). one.spare) o 0) e in omega (arith, same, h)

pub room-kept : (collection : List ℕ) (held now : HeldRows) (drawers after : List (List ℕ × HeldRows)) → lookup (bytes_eq collection) drawers ≡ Some held → after ≡ set_value (bytes_eq collection) drawers now
    → held.spare ≤ now.spare → (name : List ℕ) → spare_of name drawers ≤ spare_of name after
room-kept collection held now drawers after e set more name =
    let all = room-edited collection held now drawers after 0 e set (omega (arith, more)) name in
    let none : ◌≡◌ {A = ℕ} (cond (bytes_eq name collection) 0 0) 0 = nothing_more (bytes_eq name collection) in
    omega (arith, all, none)
  where
    nothing_more : (b : Bool) → ◌≡◌ {A = ℕ} (cond b 0 0) 0
    nothing_more true = refl
    nothing_more false = refl

-- ---- room that is made

puts_in-append : (name : List ℕ) (xs ys : List RowChange) → puts_in name (xs ++ ys) ≡ puts_in name xs + puts_in name ys
puts_in-append name [] ys = omega arith
puts_in-append name (x ∷ xs) ys = omega (arith, puts_in-append name xs ys, puts_in-cons name x xs, puts_in-cons name x (xs ++ ys))

either : (a b : ℕ) (X : Type 0) → 0 < a + b → (0 < a → X) → (0 < b → X) → X
either zero b X h f g = g (omega arith)
either (suc a) b X h f g = f (omega arith)

puts_one : (name : List ℕ) (change : RowChange) → puts_in name (change ∷ []) ≤ 1
puts_one name (row.Put new) = at_most (bytes_eq name new.collection)
  where
    at_most : (b : Bool) → cond b 1 0 + 0 ≤ 1
    at_most true = omega arith
    at_most false = omega arith
puts_one name (row.Drop collection id) = omega arith

puts_in-le : (name : List ℕ) (changes : List RowChange) → puts_in name changes ≤ length changes
puts_in-le name [] = omega arith
puts_in-le name (change ∷ changes) = omega (arith, puts_in-le name changes, puts_one name change, puts_in-cons name change changes)

pub room_more : (changes : List RowChange) (i n : ℕ) (change : RowChange) (drawers after : List (List ℕ × HeldRows)) → i < length changes → change ≡ get_or changes i change
    → ((name : List ℕ) → 0 < puts_in name (take i changes) → n ≤ spare_of name drawers) → ((name : List ℕ) → 0 < puts_in name (change ∷ []) → n ≤ spare_of name after)
    → ((name : List ℕ) → spare_of name drawers ≤ spare_of name after) → (name : List ℕ) → 0 < puts_in name (take (i + 1) changes) → n ≤ spare_of name after
room_more changes i n change drawers after lt is old new more name h =
    let cut : take (i + 1) changes ≡ take i changes ++ change ∷ [] = take_push changes i change lt is in
    let sum : puts_in name (take (i + 1) changes) ≡ puts_in name (take i changes) + puts_in name (change ∷ []) = ap (λ l. puts_in name l) cut ∙ puts_in-append name (take i changes) (change ∷ []) in
    either (puts_in name (take i changes)) (puts_in name (change ∷ [])) (n ≤ spare_of name after) (omega (arith, h, sum)) (λ a. omega (arith, old name a, more name)) (λ b. new name b)

pub room_all : (changes : List RowChange) (i : ℕ) (drawers : List (List ℕ × HeldRows)) → length changes ≤ i → ((name : List ℕ) → 0 < puts_in name (take i changes) → length changes ≤ spare_of name drawers)
    → (name : List ℕ) → puts_in name changes ≤ spare_of name drawers
room_all changes i drawers past room name =
    let whole : take i changes ≡ changes = take_all i changes past in
    by (puts_in name changes) refl (subst (λ l. 0 < puts_in name l → length changes ≤ spare_of name drawers) whole (room name))
  where
    by : (k : ℕ) → puts_in name changes ≡ k → (0 < puts_in name changes → length changes ≤ spare_of name drawers) → puts_in name changes ≤ spare_of name drawers
    by zero e h = omega (arith, e)
    by (suc k) e h = omega (arith, puts_in-le name changes, h (omega (arith, e)))

pub changes_of-push : (entries : List ReadyRow) (entry : ReadyRow) → changes_of (entries ++ entry ∷ []) ≡ changes_of entries ++ change_of entry ∷ []
changes_of-push [] entry = refl
changes_of-push (one ∷ entries) entry = ap (λ rest. change_of one ∷ rest) (changes_of-push entries entry)

pub ready_more : (changes : List RowChange) (i : ℕ) (entries : List ReadyRow) (entry : ReadyRow) (change : RowChange) → i < length changes → change ≡ get_or changes i change → changes_of entries ≡ take i changes → change_of entry ≡ change
    → changes_of (entries ++ entry ∷ []) ≡ take (i + 1) changes
ready_more changes i entries entry change lt is so_far this =
    changes_of-push entries entry ∙ ap (λ l. l ++ change_of entry ∷ []) so_far ∙ ap (λ one. take i changes ++ one ∷ []) this ∙ sym (take_push changes i change lt is)

-- ---- a drawer that is touched, and a new one

pub same_in : (collection : List ℕ) (held now : HeldRows) → now.rows ≡ held.rows → (drawers : List (List ℕ × HeldRows)) → lookup (bytes_eq collection) drawers ≡ Some held → rows_in (set_value (bytes_eq collection) drawers now) ≡ rows_in drawers
same_in collection held now same [] e = cc
same_in collection held now same (drawer ∷ drawers) e =
    elim (bytes_eq collection drawer.0) as (λ v. cond v (Some drawer.1) (lookup (bytes_eq collection) drawers) ≡ Some held
    → rows_in (cond v ((drawer.0, now) ∷ drawers) (drawer ∷ set_value (bytes_eq collection) drawers now)) ≡ drawer.1.rows ++ rows_in drawers) [
      | true ↦ (λ h. let here : drawer.1 ≡ held = cc in ap (λ l. l ++ rows_in drawers) (same ∙ ap (λ (one : HeldRows). one.rows) (sym here)))
      | false ↦ (λ h. ap (λ l. drawer.1.rows ++ l) (same_in collection held now same drawers h))
    ] e

module _ {drawers : List (List ℕ × HeldRows)} {len total ends : ℕ} (shelf : IsShelf drawers len total ends) where
  pub touched : (collection : List ℕ) (held now : HeldRows) (after : List (List ℕ × HeldRows)) → now.rows ≡ held.rows → lookup (bytes_eq collection) drawers ≡ Some held → after ≡ set_value (bytes_eq collection) drawers now
      → keys_of after ≡ keys_of drawers → IsShelf after len total ends
  touched collection held now after same e set keys =
      let rows : rows_in after ≡ rows_in drawers = ap (λ l. rows_in l) set ∙ same_in collection held now same drawers e in
      record {
        named = subst (λ l. NamesDrawers l) (sym set) (named-edited collection now drawers shelf.named
            (subst (λ l. Each (λ (row : Row). row.collection ≡ collection) l) (sym same) (held_named collection held drawers shelf.named e)));
        names = subst (λ l. NamesApart l) (sym keys) shelf.names;
        len_counts = shelf.len_counts ∙ ap (λ l. length l) (sym rows);
        total_counts = shelf.total_counts ∙ ap (λ l. row_bytes l) (sym rows);
        sizes = subst (λ l. Each HasCountablePayload l) (sym rows) shelf.sizes;
        outlive = subst (λ l. Each (Outlives ends) l) (sym rows) shelf.outlive;
      }

rows_in-push : (drawers : List (List ℕ × HeldRows)) (name : List ℕ) (held : HeldRows) → held.rows ≡ [] → rows_in (drawers ++ (name, held) ∷ []) ≡ rows_in drawers
rows_in-push [] name held e = ap (λ l. l ++ []) e
rows_in-push (drawer ∷ drawers) name held e = ap (λ l. drawer.1.rows ++ l) (rows_in-push drawers name held e)

keys_of-push : (drawers : List (List ℕ × HeldRows)) (name : List ℕ) (held : HeldRows) → keys_of (drawers ++ (name, held) ∷ []) ≡ keys_of drawers ++ name ∷ []
keys_of-push [] name held = refl
keys_of-push (drawer ∷ drawers) name held = ap (λ l. drawer.0 ∷ l) (keys_of-push drawers name held)

no_name : (name : List ℕ) (drawers : List (List ℕ × HeldRows)) → lookup (bytes_eq name) drawers ≡ None → Each (λ (other : List ℕ). bytes_eq name other ≡ false) (keys_of drawers)
no_name name [] e = tt
no_name name (drawer ∷ drawers) e =
    elim (bytes_eq name drawer.0) as (λ v. bytes_eq name drawer.0 ≡ v → cond v (Some drawer.1) (lookup (bytes_eq name) drawers) ≡ None → (bytes_eq name drawer.0 ≡ false) × Each (λ (other : List ℕ). bytes_eq name other ≡ false) (keys_of drawers)) [
      | true ↦ (λ t h. cc)
      | false ↦ (λ t h. (t, no_name name drawers h))
    ] refl e

lookup-push : (drawers : List (List ℕ × HeldRows)) (new name : List ℕ) (held : HeldRows) → lookup (bytes_eq new) drawers ≡ None
    → lookup (bytes_eq name) (drawers ++ (new, held) ∷ []) ≡ cond (bytes_eq name new) (Some held) (lookup (bytes_eq name) drawers)
lookup-push [] new name held e = refl
lookup-push (drawer ∷ drawers) new name held e =
    elim (bytes_eq new drawer.0) as (λ v. bytes_eq new drawer.0 ≡ v → cond v (Some drawer.1) (lookup (bytes_eq new) drawers) ≡ None
    → cond (bytes_eq name drawer.0) (Some drawer.1) (lookup (bytes_eq name) (drawers ++ (new, held) ∷ [])) ≡ cond (bytes_eq name new) (Some held) (cond (bytes_eq name drawer.0) (Some drawer.1) (lookup (bytes_eq name) drawers))) [
      | true ↦ (λ t h. cc)
      | false ↦ (λ t h.
          elim (bytes_eq name drawer.0) as (λ v. bytes_eq name drawer.0 ≡ v → cond v (Some drawer.1) (lookup (bytes_eq name) (drawers ++ (new, held) ∷ [])) ≡ cond (bytes_eq name new) (Some held) (cond v (Some drawer.1) (lookup (bytes_eq name) drawers))) [
            | true ↦ (λ s.
                let other : bytes_eq name new ≡ false = ap (λ one. bytes_eq one new) (same_text name drawer.0 s) ∙ bytes_eq-flip new drawer.0 t in
                sym (ap (λ v. cond v (Some held) (Some drawer.1)) other))
            | false ↦ (λ s. lookup-push drawers new name held h)
          ] refl)
    ] refl e

module _ {drawers : List (List ℕ × HeldRows)} {len total ends : ℕ} (shelf : IsShelf drawers len total ends) (new : List ℕ) (held : HeldRows) (after : List (List ℕ × HeldRows)) (empty : held.rows ≡ [])
    (none : lookup (bytes_eq new) drawers ≡ None) (push : after ≡ drawers ++ (new, held) ∷ []) where
  pub new_rows : rows_in after ≡ rows_in drawers
  new_rows = ap (λ l. rows_in l) push ∙ rows_in-push drawers new held empty

  pub new_shelf : IsShelf after len total ends
  new_shelf = record {
    named = subst (λ l. NamesDrawers l) (sym push)
        (Each-append (λ (drawer : List ℕ × HeldRows). Each (λ (row : Row). row.collection ≡ drawer.0) drawer.1.rows) drawers ((new, held) ∷ []) shelf.named
        (subst (λ l. Each (λ (row : Row). row.collection ≡ new) l) (sym empty) tt, tt));
    names = subst (λ l. NamesApart l) (sym (ap (λ l. keys_of l) push ∙ keys_of-push drawers new held))
        (Pairs-append (λ (name other : List ℕ). IsFalse (bytes_eq other name)) (keys_of drawers) (new ∷ []) shelf.names (tt, tt)
        (Each-imp (λ (other : List ℕ). bytes_eq new other ≡ false) (λ (name : List ℕ). Each (λ (other : List ℕ). IsFalse (bytes_eq other name)) (new ∷ [])) (λ name h. (h, tt)) (keys_of drawers) (no_name new drawers none)));
    len_counts = shelf.len_counts ∙ ap (λ l. length l) (sym new_rows);
    total_counts = shelf.total_counts ∙ ap (λ l. row_bytes l) (sym new_rows);
    sizes = subst (λ l. Each HasCountablePayload l) (sym new_rows) shelf.sizes;
    outlive = subst (λ l. Each (Outlives ends) l) (sym new_rows) shelf.outlive;
  }

pub new_room : (drawers : List (List ℕ × HeldRows)) (new : List ℕ) (held : HeldRows) (after : List (List ℕ × HeldRows)) → lookup (bytes_eq new) drawers ≡ None → after ≡ drawers ++ (new, held) ∷ [] → spare_of new after ≡ held.spare
new_room drawers new held after none push =
    ap (λ o. option_map_or (λ (one : HeldRows). one.spare) o 0)
    (ap (λ l. lookup (bytes_eq new) l) push ∙ lookup-push drawers new new held none ∙ ap (λ v. cond v (Some held) (lookup (bytes_eq new) drawers)) (bytes_eq-same new new refl))

pub new_others : (drawers : List (List ℕ × HeldRows)) (new : List ℕ) (held : HeldRows) (after : List (List ℕ × HeldRows)) → lookup (bytes_eq new) drawers ≡ None → after ≡ drawers ++ (new, held) ∷ [] → (name : List ℕ) → spare_of name drawers ≤ spare_of name after
new_others drawers new held after none push name =
    let value : lookup (bytes_eq name) after ≡ cond (bytes_eq name new) (Some held) (lookup (bytes_eq name) drawers) = ap (λ l. lookup (bytes_eq name) l) push ∙ lookup-push drawers new name held none in
    let same : spare_of name after ≡ option_map_or (λ (one : HeldRows). one.spare) (cond (bytes_eq name new) (Some held) (lookup (bytes_eq name) drawers)) 0 = ap (λ o. option_map_or (λ (one : HeldRows). one.spare) o 0) value in
    elim (bytes_eq name new) as (λ v. bytes_eq name new ≡ v → spare_of name after ≡ option_map_or (λ (one : HeldRows). one.spare) (cond v (Some held) (lookup (bytes_eq name) drawers)) 0 → spare_of name drawers ≤ spare_of name after) [
      | true ↦ (λ t s.
          let was : ◌≡◌ {A = ℕ} (spare_of name drawers) 0 = ap (λ o. option_map_or (λ (one : HeldRows). one.spare) o 0) (ap (λ one. lookup (bytes_eq one) drawers) (same_text name new t) ∙ none) in
          omega (arith, was))
      | false ↦ (λ t s. omega (arith, s))
    ] refl same
