-- Lists in order are equal exactly where they have the same elements; and when an opening goes on from a closing.
use Rattle.std.specs.Prelude.{◌≡◌, ◌&&◌, ◌↔◌, ℕ, Bool, true, false, List, filter, bytes_eq, refl}
use Rattle.std.proofs.Common.{subst, sym, ap, ◌∙◌, arith}
use Rattle.std.specs.declared.cmp.Ordering.{Ordering}
use Rattle.std.specs.declared.cmp.Ordering.TheVariants.{Less, Equal, Greater}
use Rattle.std.specs.Cmp.{IsTotalOrder, unsigned_ties}
use Rattle.std.proofs.lemmas.Bool.{eqb-true}
use Rattle.std.specs.Ordering.{is_eq, ordering_then}
use Rattle.ss_text.specs.Texts.{IsReordering, chain, sorted, text_cmp}
use Rattle.ss_text.specs.Time.{after}
use Rattle.ss_text.proofs.Basics.{bytes_eq-flip}
use Rattle.ss_bso.specs.declared.rows.Row.{Row}
use Rattle.ss_bso.specs.declared.account.Plain.{Plain}
use Rattle.ss_bso.specs.declared.account.Staged.{Staged}
use Rattle.ss_bso.specs.Account.{is_alive, is_open}
use Rattle.ss_bso.specs.Lists.{Apart, Pairs}
use Rattle.ss_bso.specs.Validity.{IsValid, SameAccount}
use Rattle.ss_bso.proofs.Lists.{Each-any, Pairs-filter, Pairs-imp, Pairs-from_AllPairs}
use Rattle.ss_bso.proofs.Reordering.{reordered-filter, reordered-sym}
use Rattle.ss_query.proofs.Orders.{untied}
use Rattle.ss_laws.proofs.InOrder.{reordered-sorted}
use Rattle.ss_dump.specs.Dumps.{comes_before, name_cmp, number_cmp, place_cmp}
use Rattle.ss_dump.proofs.Complete.{name_total, number_total, place_total}
use Rattle.ss_dump.proofs.Orders.{sorted_same}
use Rattle.ss_audit.specs.Sound.{GoesOn}
use Rattle.ss_audit.specs.Validity.{NamedApart, NumberedApart}
use Rattle.ss_audit.proofs.Valid.{names_valid, places_valid}

-- ---- in order

-- lists of which one's elements are told apart by an order: they have the same elements exactly where they are equal in order
pub same_in_order : {X : Type 0} (cmp : X → X → Ordering) → IsTotalOrder cmp → (xs ys : List X) → Pairs (λ (x y : X). cmp x y ≡ Equal → ⊥) xs
    → (sorted (comes_before cmp) xs ≡ sorted (comes_before cmp) ys) ↔ IsReordering xs ys
same_in_order cmp total xs ys apart = (
  λ e. chain (reordered-sorted (comes_before cmp) xs) (subst (λ zs. IsReordering zs ys) (sym e) (reordered-sym (reordered-sorted (comes_before cmp) ys))),
  λ r. sorted_same cmp total xs ys r apart,
)

both_equal : (a b : Ordering) → ordering_then a b ≡ Equal → (a ≡ Equal) × (b ≡ Equal)
both_equal Less b e = cc
both_equal Equal b e = (refl, e)
both_equal Greater b e = cc

other_place : (a b : Bool) (P : Type 0) → (a ≡ false → P) → (b ≡ false → P) → (a && b) ≡ false → P
other_place true b P f g e = g e
other_place false b P f g e = f refl

rows_untied : (row other : Row) → Apart row other → place_cmp row other ≡ Equal → ⊥
rows_untied row other e h =
    let t = both_equal (text_cmp row.collection other.collection) (text_cmp row.id other.id) h in
    other_place (bytes_eq other.collection row.collection) (bytes_eq other.id row.id) ⊥
    (λ f. untied_turned row.collection other.collection f t.0) (λ f. untied_turned row.id other.id f t.1) e
  where
    untied_turned : (x y : List ℕ) → bytes_eq y x ≡ false → text_cmp x y ≡ Equal → ⊥
    untied_turned x y f k = untied y x (bytes_eq-flip y x f) k

names_untied : (entry other : List ℕ × ℕ) → NamedApart entry other → name_cmp entry other ≡ Equal → ⊥
names_untied entry other e h = untied other.0 entry.0 (bytes_eq-flip other.0 entry.0 e) h

numbers_untied : (batch other : Staged) → NumberedApart batch other → number_cmp batch other ≡ Equal → ⊥
numbers_untied batch other differ h = differ (eqb-true batch.number other.number (unsigned_ties batch.number other.number ∙ ap is_eq h))

imp : {X : Type 0} (R S : X → X → Type 0) → ((x y : X) → R x y → S x y) → (xs : List X) → Pairs R xs → Pairs S xs
imp {X} R S h xs p = Pairs-imp R S (λ (x : X). Unit {0}) (λ x y _ _ r. h x y r) xs (Each-any xs) p

pub same_names : (account other : Plain) → IsValid account → (sorted (comes_before name_cmp) account.collections ≡ sorted (comes_before name_cmp) other.collections) ↔ IsReordering account.collections other.collections
same_names account other valid =
    same_in_order name_cmp name_total account.collections other.collections
    (imp NamedApart (λ (x y : List ℕ × ℕ). name_cmp x y ≡ Equal → ⊥) names_untied account.collections (names_valid account valid))

pub same_places : (account other : Plain) (moment : ℕ) → IsValid account
    → (sorted (comes_before place_cmp) (filter (is_alive moment) account.rows) ≡ sorted (comes_before place_cmp) (filter (is_alive moment) other.rows))
    ↔ IsReordering (filter (is_alive moment) account.rows) (filter (is_alive moment) other.rows)
same_places account other moment valid =
    same_in_order place_cmp place_total (filter (is_alive moment) account.rows) (filter (is_alive moment) other.rows)
    (imp Apart (λ (x y : Row). place_cmp x y ≡ Equal → ⊥) rows_untied (filter (is_alive moment) account.rows)
    (Pairs-filter Apart (is_alive moment) account.rows (places_valid account valid)))

pub same_numbers : (account other : Plain) (moment : ℕ) → IsValid account
    → (sorted (comes_before number_cmp) (filter (is_open moment) account.batches) ≡ sorted (comes_before number_cmp) (filter (is_open moment) other.batches))
    ↔ IsReordering (filter (is_open moment) account.batches) (filter (is_open moment) other.batches)
same_numbers account other moment valid =
    same_in_order number_cmp number_total (filter (is_open moment) account.batches) (filter (is_open moment) other.batches)
    (imp NumberedApart (λ (x y : Staged). number_cmp x y ≡ Equal → ⊥) numbers_untied (filter (is_open moment) account.batches)
    (Pairs-filter NumberedApart (is_open moment) account.batches (Pairs-from_AllPairs NumberedApart account.batches valid.numbers)))

-- ---- going on

-- a reading of 0 leaves the moment
own_moment : (moment : ℕ) → after moment 0 ≡ moment
own_moment moment = omega arith

-- the same account goes on as it is
pub same_goes_on : (closing opening : Plain) → SameAccount closing opening → GoesOn closing opening
same_goes_on closing opening s =
    let own : after closing.moment 0 ≡ closing.moment = own_moment closing.moment in
    let there : after opening.moment closing.moment ≡ closing.moment = let e : closing.moment ≡ opening.moment = s.moment in omega (arith, e) in
    record {
      moment = omega (arith, s.moment);
      same = record {
        rows = subst (λ m. IsReordering (filter (is_alive (after closing.moment 0)) closing.rows) (filter (is_alive m) opening.rows)) (own ∙ sym there)
            (reordered-filter (is_alive (after closing.moment 0)) s.rows);
        collections = s.collections;
        batches = subst (λ m. IsReordering (filter (is_open (after closing.moment 0)) closing.batches) (filter (is_open m) opening.batches)) (own ∙ sym there)
            (reordered-filter (is_open (after closing.moment 0)) s.batches);
        store = s.store;
        last_delete = s.last_delete;
        moment = own ∙ sym there;
        counter = s.counter;
      };
    }
