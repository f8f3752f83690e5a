-- Equal accounts have one dump, in whatever order their rows, collections and batches stand.
use Rattle.std.specs.Prelude.{◌≡◌, ◌≢◌, ℕ, true, false, ◌&&◌, List, bytes_eq, refl}
use Rattle.std.proofs.Common.{sym, ap, ap₂, ◌∙◌}
use Rattle.std.proofs.lemmas.Map.Lookups.{exact_unsigned}
use Rattle.std.specs.declared.cmp.Ordering.{Ordering}
use Rattle.std.specs.declared.cmp.Ordering.TheVariants.{Less, Equal, Greater}
use Rattle.std.specs.Ordering.{is_eq, nat_cmp, ordering_then}
use Rattle.std.specs.Cmp.{IsTotalOrder, nat_cmp_total, on_total, then_total}
use Rattle.std.specs.Cmp.Lexicographic.{nat_list_cmp_total, texts_ties}
use Rattle.ss_text.specs.Texts.{IsReordering, sorted, text_cmp}
use Rattle.ss_text.proofs.Basics.{bytes_eq-same, same_text}
use Rattle.ss_bso.specs.declared.rows.Row.{Row}
use Rattle.ss_bso.specs.declared.account.Plain.{Plain}
use Rattle.ss_bso.specs.declared.account.Staged.{Staged}
use Rattle.ss_bso.specs.declared.changes.Kept.{Kept}
use Rattle.ss_bso.specs.Changes.{kept_of, account_at_opening}
use Rattle.ss_bso.specs.Lists.{Apart, Pairs}
use Rattle.ss_bso.specs.Validity.{IsValid, SameAccount}
use Rattle.ss_bso.proofs.Lists.{Each-any, Pairs-from_AllPairs, Pairs-imp}
use Rattle.ss_bso.proofs.Reordering.{Ranked, same-back, sorted-reordered}
use Rattle.ss_query.proofs.Orders.{by_name-reordered, ranked, through}
use Rattle.ss_dump.specs.Dumps.{account_lines, body_text, closed_by, comes_before, digest_of, dump_text, in_order}
use Rattle.ss_dump.specs.Dumps.{number_cmp, place_cmp, text_of}

-- ---- rows

place_total : IsTotalOrder place_cmp
place_total = then_total (on_total (λ (row : Row). row.collection) nat_list_cmp_total) (on_total (λ (row : Row). row.id) nat_list_cmp_total)

first_ties : (a b : Ordering) → ordering_then a b ≡ Equal → a ≡ Equal
first_ties Less b e = cc
first_ties Equal b e = refl
first_ties Greater b e = cc

second_ties : (a b : Ordering) → ordering_then a b ≡ Equal → b ≡ Equal
second_ties Less b e = cc
second_ties Equal b e = e
second_ties Greater b e = cc

-- rows in two places don't tie
places_untied : (row other : Row) → Apart row other → place_cmp row other ≡ Equal → ⊥
places_untied row other apart h =
    let collections : bytes_eq row.collection other.collection ≡ true =
    texts_ties row.collection other.collection ∙ ap is_eq (first_ties (text_cmp row.collection other.collection) (text_cmp row.id other.id) h) in
    let ids : bytes_eq row.id other.id ≡ true = texts_ties row.id other.id ∙ ap is_eq (second_ties (text_cmp row.collection other.collection) (text_cmp row.id other.id) h) in
    let same : (bytes_eq other.collection row.collection && bytes_eq other.id row.id) ≡ true =
    ap₂ (λ a b. a && b) (back row.collection other.collection collections) (back row.id other.id ids) in
    let clash : true ≡ false = sym same ∙ apart in
    cc
  where
    back : (x y : List ℕ) → bytes_eq x y ≡ true → bytes_eq y x ≡ true
    back x y e = bytes_eq-same y x (sym (same_text x y e))

rows_in_order : (rows others : List Row) → IsReordering rows others → Pairs Apart rows → sorted (comes_before place_cmp) rows ≡ sorted (comes_before place_cmp) others
rows_in_order rows others r apart =
    sorted-reordered (comes_before place_cmp) (through place_cmp place_total) r
    (Pairs-imp Apart (Ranked (comes_before place_cmp)) (λ (row : Row). Unit {0}) (λ row other _ _ e. ranked place_cmp place_total row other (places_untied row other e)) rows (Each-any rows) apart)

-- ---- batches

abbrev OtherNumber : Staged → Staged → Type 0
OtherNumber batch other = batch.number ≢ other.number

number_total : IsTotalOrder number_cmp
number_total = on_total (λ (batch : Staged). batch.number) nat_cmp_total

numbers_tie : (m n : ℕ) → nat_cmp m n ≡ Equal → m ≡ n
numbers_tie m n e = exact_unsigned m n e

batches_in_order : (batches others : List Staged) → IsReordering batches others → Pairs OtherNumber batches → sorted (comes_before number_cmp) batches ≡ sorted (comes_before number_cmp) others
batches_in_order batches others r apart =
    sorted-reordered (comes_before number_cmp) (through number_cmp number_total) r
    (Pairs-imp OtherNumber (Ranked (comes_before number_cmp)) (λ (batch : Staged). Unit {0})
    (λ batch other _ _ e. ranked number_cmp number_total batch other (λ h. e (numbers_tie batch.number other.number h))) batches (Each-any batches) apart)

-- ---- accounts

one_order : (one other : Plain) → IsValid one → SameAccount one other → in_order (kept_of one) ≡ in_order (kept_of other)
one_order one other valid same =
    let rows = rows_in_order one.rows other.rows same.rows (Pairs-from_AllPairs Apart one.rows valid.places) in
    let collections = by_name-reordered one.collections other.collections same.collections (Pairs-from_AllPairs _ one.collections valid.names) in
    let batches = batches_in_order one.batches other.batches same.batches (Pairs-from_AllPairs OtherNumber one.batches valid.numbers) in
    let store = same.store in
    let last_delete = same.last_delete in
    let counter = same.counter in
    cc

pub same_dump : (one other : Plain) → IsValid one → SameAccount one other → dump_text (kept_of one) ≡ dump_text (kept_of other)
unfolding dump_text body_text
same_dump one other valid same =
    ap (λ (kept : Kept). closed_by (digest_of (text_of (account_lines kept))) (text_of (account_lines kept))) (one_order one other valid same)

-- an account that was opened, and a copy of it
pub opened_dump : (kept : Kept) (account copied : Plain) → SameAccount (account_at_opening kept) account → IsValid account → SameAccount account copied → dump_text (kept_of copied) ≡ dump_text (kept_of (account_at_opening kept))
opened_dump kept account copied opens valid same = sym (same_dump account copied valid same) ∙ same_dump account (account_at_opening kept) valid (same-back (account_at_opening kept) account opens)
