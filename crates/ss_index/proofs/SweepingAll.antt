-- A sweep of all drawers, one after the other.
use Rattle.std.specs.Prelude.{◌≡◌, ℕ, zero, suc, ◌+◌, ◌≤◌, ◌<◌, Bool, true, false, cond, List, [], ◌∷◌, ◌++◌, length}
use Rattle.std.specs.Prelude.{filter, slice_get, Some, None, bytes_eq, refl}
use Rattle.std.proofs.Common.{sym, ap, subst, ◌∙◌, arith}
use Rattle.std.proofs.lemmas.List.Elements.{filter-append}
use Rattle.std.specs.Map.{lookup, keys_of, values_of}
use Rattle.std.specs.Option.{option_map_or}
use Rattle.indexmap.specs.Layout.{set_value_at}
use Rattle.ss_bso.specs.declared.rows.Row.{Row}
use Rattle.ss_bso.specs.Account.{is_alive}
use Rattle.ss_bso.specs.Limits.{row_bytes}
use Rattle.ss_index.specs.Held.{HeldRows, HasCountablePayload}
use Rattle.ss_index.specs.Sweep.{AliveTo, HoldsTo, Outlives}
use Rattle.ss_index.specs.Shelved.{rows_in, NamesDrawers, NamesApart, IsShelf}
use Rattle.ss_index.specs.Ready.{spare_of}
use Rattle.ss_bso.proofs.Lists.{Each, Each-append, Each-imp, Each-filter, Each-passes}
use Rattle.ss_index.proofs.Shelves.{filter-every, len-adds, bytes-adds}

filter-twice : {X : Type 0} (p : X → Bool) (xs : List X) → filter p (filter p xs) ≡ filter p xs
filter-twice p xs = filter-every p (filter p xs) (Each-passes p xs)

some_held : (x y : HeldRows) → Some x ≡ Some y → x ≡ y
some_held x y e = cc

each_left : (P : Row → Type 0) (xs ys : List Row) → Each P (xs ++ ys) → Each P xs
each_left P [] ys e = tt
each_left P (x ∷ xs) ys e = (e.0, each_left P xs ys e.1)

each_right : (P : Row → Type 0) (xs ys : List Row) → Each P (xs ++ ys) → Each P ys
each_right P [] ys e = e
each_right P (x ∷ xs) ys e = each_right P xs ys e.1

module _ (moment : ℕ) (held now : HeldRows) (swept : now.rows ≡ filter (is_alive moment) held.rows) where
  pub swept_rows : (drawers : List (List ℕ × HeldRows)) (i : ℕ) → slice_get (values_of drawers) i ≡ Some held → filter (is_alive moment) (rows_in (set_value_at drawers i now)) ≡ filter (is_alive moment) (rows_in drawers)
  swept_rows [] i e = refl
  swept_rows (drawer ∷ drawers) zero e =
      filter-append (is_alive moment) now.rows (rows_in drawers)
      ∙ ap (λ l. filter (is_alive moment) l ++ filter (is_alive moment) (rows_in drawers)) swept
      ∙ ap (λ l. l ++ filter (is_alive moment) (rows_in drawers)) (filter-twice (is_alive moment) held.rows ∙ ap (λ (one : HeldRows). filter (is_alive moment) one.rows) (sym (some_held drawer.1 held e)))
      ∙ sym (filter-append (is_alive moment) drawer.1.rows (rows_in drawers))
  swept_rows (drawer ∷ drawers) (suc i) e =
      filter-append (is_alive moment) drawer.1.rows (rows_in (set_value_at drawers i now))
      ∙ ap (λ l. filter (is_alive moment) drawer.1.rows ++ l) (swept_rows drawers i e)
      ∙ sym (filter-append (is_alive moment) drawer.1.rows (rows_in drawers))

  pub each_swept : (P : Row → Type 0) (drawers : List (List ℕ × HeldRows)) (i : ℕ) → slice_get (values_of drawers) i ≡ Some held → Each P (rows_in drawers) → Each P (rows_in (set_value_at drawers i now))
  each_swept P [] i e all = tt
  each_swept P (drawer ∷ drawers) zero e all =
      let own : Each P held.rows = subst (λ (one : HeldRows). Each P one.rows) (some_held drawer.1 held e) (each_left P drawer.1.rows (rows_in drawers) all) in
      Each-append P now.rows (rows_in drawers) (subst (λ l. Each P l) (sym swept) (Each-filter P (is_alive moment) held.rows own)) (each_right P drawer.1.rows (rows_in drawers) all)
  each_swept P (drawer ∷ drawers) (suc i) e all =
      Each-append P drawer.1.rows (rows_in (set_value_at drawers i now)) (each_left P drawer.1.rows (rows_in drawers) all) (each_swept P drawers i e (each_right P drawer.1.rows (rows_in drawers) all))

  pub named_swept : (drawers : List (List ℕ × HeldRows)) (i : ℕ) → slice_get (values_of drawers) i ≡ Some held → NamesDrawers drawers → NamesDrawers (set_value_at drawers i now)
  named_swept [] i e n = tt
  named_swept (drawer ∷ drawers) zero e n = (
    subst (λ l. Each (λ (row : Row). row.collection ≡ drawer.0) l) (sym swept)
        (Each-filter (λ (row : Row). row.collection ≡ drawer.0) (is_alive moment) held.rows (subst (λ (one : HeldRows). Each (λ (row : Row). row.collection ≡ drawer.0) one.rows) (some_held drawer.1 held e) n.0)),
    n.1,
  )
  named_swept (drawer ∷ drawers) (suc i) e n = (n.0, named_swept drawers i e n.1)

keys_swept : (now : HeldRows) (drawers : List (List ℕ × HeldRows)) (i : ℕ) → keys_of (set_value_at drawers i now) ≡ keys_of drawers
keys_swept now [] i = refl
keys_swept now (drawer ∷ drawers) zero = refl
keys_swept now (drawer ∷ drawers) (suc i) = ap (λ l. drawer.0 ∷ l) (keys_swept now drawers i)

pub length_swept : (now : HeldRows) (drawers : List (List ℕ × HeldRows)) (i : ℕ) → length (set_value_at drawers i now) ≡ length drawers
length_swept now [] i = refl
length_swept now (drawer ∷ drawers) zero = refl
length_swept now (drawer ∷ drawers) (suc i) = omega (arith, length_swept now drawers i)

counted_at : (count : List Row → ℕ) → ((xs ys : List Row) → count (xs ++ ys) ≡ count xs + count ys) → (held now : HeldRows) (drawers : List (List ℕ × HeldRows)) (i : ℕ) → slice_get (values_of drawers) i ≡ Some held
    → count (rows_in (set_value_at drawers i now)) + count held.rows ≡ count (rows_in drawers) + count now.rows
counted_at count adds held now [] i e = cc
counted_at count adds held now (drawer ∷ drawers) zero e =
    let same : count drawer.1.rows ≡ count held.rows = ap (λ (one : HeldRows). count one.rows) (some_held drawer.1 held e) in
    omega (arith, same, adds drawer.1.rows (rows_in drawers), adds now.rows (rows_in drawers))
counted_at count adds held now (drawer ∷ drawers) (suc i) e =
    omega (arith, counted_at count adds held now drawers i e, adds drawer.1.rows (rows_in drawers), adds drawer.1.rows (rows_in (set_value_at drawers i now)))

pub room_swept : (held now : HeldRows) → held.spare ≤ now.spare → (drawers : List (List ℕ × HeldRows)) (i : ℕ) → slice_get (values_of drawers) i ≡ Some held → (name : List ℕ) → spare_of name drawers ≤ spare_of name (set_value_at drawers i now)
room_swept held now more [] i e name = omega arith
room_swept held now more (drawer ∷ drawers) zero e name =
    let same : drawer.1.spare ≡ held.spare = ap (λ (one : HeldRows). one.spare) (some_held drawer.1 held e) in
    elim (bytes_eq name drawer.0) as (λ v. option_map_or (λ (one : HeldRows). one.spare) (cond v (Some drawer.1) (lookup (bytes_eq name) drawers)) 0 ≤ option_map_or (λ (one : HeldRows). one.spare) (cond v (Some now) (lookup (bytes_eq name) drawers)) 0) [
      | true ↦ omega (arith, same, more)
      | false ↦ omega arith
    ]
room_swept held now more (drawer ∷ drawers) (suc i) e name =
    elim (bytes_eq name drawer.0) as (λ v. option_map_or (λ (one : HeldRows). one.spare) (cond v (Some drawer.1) (lookup (bytes_eq name) drawers)) 0 ≤ option_map_or (λ (one : HeldRows). one.spare) (cond v (Some drawer.1) (lookup (bytes_eq name) (set_value_at drawers i now))) 0) [
      | true ↦ omega arith
      | false ↦ room_swept held now more drawers i e name
    ]

pub within_at : {drawers : List (List ℕ × HeldRows)} {len total ends : ℕ} (shelf : IsShelf drawers len total ends) (held : HeldRows) (i : ℕ) → slice_get (values_of drawers) i ≡ Some held → (length held.rows ≤ len) × (row_bytes held.rows ≤ total)
within_at {drawers} shelf held i e =
    let empty : HeldRows = record { rows = []; spare = 0 } in
    (omega (arith, shelf.len_counts, counted_at (λ l. length l) len-adds held empty drawers i e), omega (arith, shelf.total_counts, counted_at row_bytes bytes-adds held empty drawers i e))

pub shelf_swept : {drawers : List (List ℕ × HeldRows)} {len total ends : ℕ} (shelf : IsShelf drawers len total ends) (moment : ℕ) (held now : HeldRows) (i : ℕ) (len_now total_now : ℕ) → now.rows ≡ filter (is_alive moment) held.rows → slice_get (values_of drawers) i ≡ Some held
    → len_now + length held.rows ≡ len + length now.rows → total_now + row_bytes held.rows ≡ total + row_bytes now.rows → IsShelf (set_value_at drawers i now) len_now total_now ends
shelf_swept {drawers} {ends = ends} shelf moment held now i len_now total_now swept e len_is total_is = record {
  named = named_swept moment held now swept drawers i e shelf.named;
  names = subst (λ l. NamesApart l) (sym (keys_swept now drawers i)) shelf.names;
  len_counts = omega (arith, len_is, shelf.len_counts, counted_at (λ l. length l) len-adds held now drawers i e);
  total_counts = omega (arith, total_is, shelf.total_counts, counted_at row_bytes bytes-adds held now drawers i e);
  sizes = each_swept moment held now swept HasCountablePayload drawers i e shelf.sizes;
  outlive = each_swept moment held now swept (Outlives ends) drawers i e shelf.outlive;
}

-- ---- facts on the first drawers

pub holds_more : (P : Row → Type 0) (now : HeldRows) (drawers : List (List ℕ × HeldRows)) (i : ℕ) → Each P now.rows → HoldsTo P i drawers → HoldsTo P (suc i) (set_value_at drawers i now)
holds_more P now [] i own a = tt
holds_more P now (drawer ∷ drawers) zero own a = (own, tt)
holds_more P now (drawer ∷ drawers) (suc i) own a = (a.0, holds_more P now drawers i own a.1)

pub holds_past : (P : Row → Type 0) (drawers : List (List ℕ × HeldRows)) (i : ℕ) → slice_get (values_of drawers) i ≡ None → HoldsTo P i drawers → HoldsTo P (suc i) drawers
holds_past P [] i e a = tt
holds_past P (drawer ∷ drawers) zero e a = cc
holds_past P (drawer ∷ drawers) (suc i) e a = (a.0, holds_past P drawers i e a.1)

pub holds_imp : (P Q : Row → Type 0) → ((row : Row) → P row → Q row) → (drawers : List (List ℕ × HeldRows)) (k : ℕ) → HoldsTo P k drawers → HoldsTo Q k drawers
holds_imp P Q f drawers zero a = tt
holds_imp P Q f [] (suc k) a = tt
holds_imp P Q f (drawer ∷ drawers) (suc k) a = (Each-imp P Q f drawer.1.rows a.0, holds_imp P Q f drawers k a.1)

pub holds_end : (P : Row → Type 0) (drawers : List (List ℕ × HeldRows)) (k : ℕ) → length drawers ≤ k → HoldsTo P k drawers → Each P (rows_in drawers)
holds_end P [] k le a = tt
holds_end P (drawer ∷ drawers) zero le a = absurd (omega arith)
holds_end P (drawer ∷ drawers) (suc k) le a = Each-append P drawer.1.rows (rows_in drawers) a.0 (holds_end P drawers k (omega arith) a.1)

pub alive_end : (moment : ℕ) (drawers : List (List ℕ × HeldRows)) (k : ℕ) → length drawers ≤ k → AliveTo moment k drawers → filter (is_alive moment) (rows_in drawers) ≡ rows_in drawers
alive_end moment drawers k le a = filter-every (is_alive moment) (rows_in drawers) (holds_end (λ (row : Row). is_alive moment row ≡ true) drawers k le a)

-- nothing has ended before the least end
pub nothing_ended : (ends moment : ℕ) (rows : List Row) → moment < ends → Each (Outlives ends) rows → rows ≡ filter (is_alive moment) rows
nothing_ended ends moment rows lt all = sym (filter-every (is_alive moment) rows (Each-imp (Outlives ends) (λ (row : Row). is_alive moment row ≡ true) (λ row h. h moment lt) rows all))
