-- Lists in order don't depend on the order that they had.
use Rattle.std.proofs.Common.{◌≡◌, ℕ, ◌==◌, ◌&&◌, ◌||◌, Bool, true, false, List, [], ◌∷◌, None, refl, sym, ap, ◌∙◌}
use Rattle.std.proofs.Common.{bytes_eq}
use Rattle.std.proofs.lemmas.Bool.{eqb-false}
use Rattle.std.specs.List.{list_any}
use Rattle.std.specs.declared.cmp.Ordering.{Ordering}
use Rattle.std.specs.declared.cmp.Ordering.TheVariants.{Less, Equal, Greater}
use Rattle.std.specs.Ordering.{is_eq, is_lt, nat_cmp, ordering_then}
use Rattle.std.specs.Cmp.{IsTotalOrder, unsigned_ties}
use Rattle.ss_text.specs.Texts.{IsReordering, sorted, text_cmp}
use Rattle.ss_text.proofs.Basics.{neither_left, neither_right, no_way}
use Rattle.ss_bso.specs.declared.rows.Row.{Row}
use Rattle.ss_bso.specs.declared.account.Staged.{Staged}
use Rattle.ss_bso.specs.declared.changes.Kept.{Kept}
use Rattle.ss_bso.specs.Account.{is_at}
use Rattle.ss_bso.specs.Lists.{Each, Pairs}
use Rattle.ss_bso.specs.Batches.{fit}
use Rattle.ss_bso.specs.Limits.{most_live_batches}
use Rattle.ss_bso.proofs.Lists.{Each-any, Each-imp, Pairs-imp}
use Rattle.ss_bso.proofs.Reordering.{Ranked, reordered-sym, sorted-reordered}
use Rattle.ss_query.proofs.Orders.{ranked, through, untied}
use Rattle.ss_laws.proofs.InOrder.{reordered-sorted}
use Rattle.ss_account.specs.Opening.{IsGood, first_bad, is_bad_batch, is_bad_collection, is_bad_row}
use Rattle.ss_dump.specs.Dumps.{comes_before, in_order, name_cmp, number_cmp, place_cmp}
use Rattle.ss_dump.specs.Same.{SameKept}
use Rattle.ss_dump.proofs.Ascending.{ascending_sorted}
use Rattle.ss_dump.proofs.Complete.{name_total, number_total, one_way, place_total, sorted_ascending}
use Rattle.ss_dump.proofs.Refilled.{first_good}

-- ---- lists in order, of elements of which no two tie

pub sorted_same : {X : Type 0} (cmp : X → X → Ordering) → IsTotalOrder cmp → (xs ys : List X) → IsReordering xs ys → Pairs (λ (x y : X). cmp x y ≡ Equal → ⊥) xs
    → sorted (comes_before cmp) xs ≡ sorted (comes_before cmp) ys
sorted_same {X} cmp total xs ys r apart =
    sorted-reordered (comes_before cmp) (through cmp total) r
    (Pairs-imp (λ (x y : X). cmp x y ≡ Equal → ⊥) (Ranked (comes_before cmp)) (λ (x : X). Unit {0}) (λ x y _ _ h. ranked cmp total x y h) xs (Each-any xs) apart)

pub sorted_again : {X : Type 0} (cmp : X → X → Ordering) → IsTotalOrder cmp → (xs : List X) → sorted (comes_before cmp) (sorted (comes_before cmp) xs) ≡ sorted (comes_before cmp) xs
sorted_again cmp total xs = ascending_sorted (comes_before cmp) (sorted (comes_before cmp) xs) (sorted_ascending (comes_before cmp) (one_way cmp total) xs)

-- ---- lists of which no element is bad

each_good : {X : Type 0} (bad : List X → X → Bool) (P : X → Type 0) → ((before : List X) (x : X) → bad before x ≡ false → P x) → (xs : List X) → first_bad bad xs ≡ None → Each P xs
each_good bad P h [] e = tt
each_good bad P h (x ∷ xs) e =
    let g = first_good bad x xs e in
    (h [] x g.0, each_good (λ before. bad (x ∷ before)) P (λ before y f. h (x ∷ before) y f) xs g.1)

pairs_good : {X : Type 0} (bad : List X → X → Bool) (R : X → X → Type 0) → ((before : List X) (x : X) → bad before x ≡ false → Each (λ (y : X). R y x) before) → (xs : List X)
    → first_bad bad xs ≡ None → Pairs R xs
pairs_good bad R h [] e = tt
pairs_good bad R h (x ∷ xs) e =
    let g = first_good bad x xs e in (
      each_good (λ before. bad (x ∷ before)) (R x) (λ before y f. (h (x ∷ before) y f).0) xs g.1,
      pairs_good (λ before. bad (x ∷ before)) R (λ before y f. (h (x ∷ before) y f).1) xs g.1,
    )

each_none : {X : Type 0} (p : X → Bool) (xs : List X) → list_any p xs ≡ false → Each (λ (x : X). p x ≡ false) xs
each_none p [] e = tt
each_none p (x ∷ xs) e = (neither_left (p x) (list_any p xs) e, each_none p xs (neither_right (p x) (list_any p xs) e))

-- elements that are told apart by a test from those in front of them don't tie
none_ties : {X : Type 0} (cmp : X → X → Ordering) (same : X → X → Bool) (bad : List X → X → Bool) → ((before : List X) (x : X) → bad before x ≡ false → list_any (same x) before ≡ false)
    → ((x y : X) → same x y ≡ false → cmp y x ≡ Equal → ⊥) → (xs : List X) → first_bad bad xs ≡ None → Pairs (λ (x y : X). cmp x y ≡ Equal → ⊥) xs
none_ties {X} cmp same bad tells apart xs e =
    pairs_good bad (λ (x y : X). cmp x y ≡ Equal → ⊥)
    (λ before x f. Each-imp (λ (y : X). same x y ≡ false) (λ (y : X). cmp y x ≡ Equal → ⊥) (λ y h. apart x y h) before (each_none (same x) before (tells before x f))) xs e

-- ---- collections, rows and batches

both_equal : (a b : Ordering) → ordering_then a b ≡ Equal → (a ≡ Equal) × (b ≡ Equal)
both_equal Less b e = cc
both_equal Equal b e = (refl, e)
both_equal Greater b e = cc

tied_texts : (x y : List ℕ) → text_cmp x y ≡ Equal → (bytes_eq x y ≡ false) → ⊥
tied_texts x y e h = untied y x h e

other_place : (a b : Bool) (P : Type 0) → (a ≡ false → P) → (b ≡ false → P) → (a && b) ≡ false → P
other_place true b P f g e = g e
other_place false b P f g e = f refl

rows_apart : (row other : Row) → is_at row.collection row.id other ≡ false → place_cmp other row ≡ Equal → ⊥
rows_apart row other e h =
    let t = both_equal (text_cmp other.collection row.collection) (text_cmp other.id row.id) h in
    other_place (bytes_eq other.collection row.collection) (bytes_eq other.id row.id) ⊥ (tied_texts other.collection row.collection t.0) (tied_texts other.id row.id t.1) e

numbers_apart : (batch other : Staged) → (other.number == batch.number) ≡ false → number_cmp other batch ≡ Equal → ⊥
numbers_apart batch other e h = no_way (other.number == batch.number) (unsigned_ties other.number batch.number ∙ ap is_eq h) e

names_untied : (kept : Kept) → IsGood kept → Pairs (λ (x y : List ℕ × ℕ). name_cmp x y ≡ Equal → ⊥) kept.collections
names_untied kept good =
    none_ties name_cmp (λ (entry other : List ℕ × ℕ). bytes_eq other.0 entry.0) (is_bad_collection kept.store) (λ before entry e. neither_left _ _ e)
    (λ entry other e h. tied_texts other.0 entry.0 h e) kept.collections good.collections

places_untied : (kept : Kept) → IsGood kept → Pairs (λ (x y : Row). place_cmp x y ≡ Equal → ⊥) kept.rows
places_untied kept good =
    none_ties place_cmp (λ (row other : Row). is_at row.collection row.id other) (is_bad_row kept.collections) (λ before row e. neither_left _ _ e) rows_apart kept.rows good.rows

numbers_untied : (kept : Kept) → IsGood kept → Pairs (λ (x y : Staged). number_cmp x y ≡ Equal → ⊥) kept.batches
numbers_untied kept good =
    none_ties number_cmp (λ (batch other : Staged). other.number == batch.number) (is_bad_batch kept.counter)
    (λ before batch e. neither_right _ _ (neither_left _ _ e)) numbers_apart kept.batches good.batches

-- ---- what is kept, in order

pub in_order_same : (kept other : Kept) → IsGood kept → SameKept kept other → in_order kept ≡ in_order other
in_order_same kept other good s =
    let rows = sorted_same place_cmp place_total kept.rows other.rows s.rows (places_untied kept good) in
    let collections = sorted_same name_cmp name_total kept.collections other.collections s.collections (names_untied kept good) in
    let batches = sorted_same number_cmp number_total kept.batches other.batches s.batches (numbers_untied kept good) in
    λ i. record { rows = rows i; collections = collections i; store = s.store i; last_delete = s.last_delete i; counter = s.counter i; batches = batches i }

pub in_order_again : (kept : Kept) → in_order (in_order kept) ≡ in_order kept
in_order_again kept =
    let rows = sorted_again place_cmp place_total kept.rows in
    let collections = sorted_again name_cmp name_total kept.collections in
    let batches = sorted_again number_cmp number_total kept.batches in
    λ i. record { rows = rows i; collections = collections i; store = kept.store; last_delete = kept.last_delete; counter = kept.counter; batches = batches i }

pub same_in_order : (kept : Kept) → SameKept kept (in_order kept)
same_in_order kept = record {
  rows = reordered-sorted (comes_before place_cmp) kept.rows;
  collections = reordered-sorted (comes_before name_cmp) kept.collections;
  batches = reordered-sorted (comes_before number_cmp) kept.batches;
  store = refl;
  last_delete = refl;
  counter = refl;
}
