-- Accounts that are the same but for the order of their lists show the same, and are good together.
use Rattle.std.specs.Prelude.{◌≡◌, ℕ, ◌≤◌, true, false, ◌&&◌, ◌==◌, List, map, Option, None, unwrap_or, bytes_eq, refl}
use Rattle.std.proofs.Common.{sym, ap, subst, ◌∙◌}
use Rattle.ss_text.specs.Texts.{IsReordering, sorted}
use Rattle.ss_bso.specs.declared.rows.Row.{Row}
use Rattle.ss_bso.specs.declared.account.Plain.{Plain}
use Rattle.ss_bso.specs.declared.account.Staged.{Staged}
use Rattle.ss_bso.specs.Account.{time_of}
use Rattle.ss_bso.specs.Batches.{batch_in}
use Rattle.ss_bso.specs.Limits.{rows_of, most_rows_and_collections}
use Rattle.ss_bso.specs.Lists.{Each, Pairs, Apart}
use Rattle.ss_bso.specs.Validity.{SameAccount}
use Rattle.ss_bso.proofs.Lists.{Each-any, Pairs-imp}
use Rattle.ss_bso.proofs.Reordering.{NotBoth, Each-reordered, Pairs-reordered, find-reordered, length-reordered}
use Rattle.ss_bso.proofs.Reordering.{reordered-filter}
use Rattle.ss_query.specs.declared.requests.Query.{Query}
use Rattle.ss_query.specs.declared.requests.Sort.TheVariants.{Oldest}
use Rattle.ss_query.specs.declared.replies.Picked.{Picked}
use Rattle.ss_query.specs.Answer.{is_asked, comes_before, answer}
use Rattle.ss_query.specs.Refused.{collection_time}
use Rattle.ss_query.proofs.Orders.{NamedApart, ids_distinct, answer-reordered}
use Rattle.ss_laws.proofs.SameApi.{time-same}
use Rattle.ss_serving.specs.Bookmarks.{bookmarks, sheet_of, sheets_of}
use Rattle.ss_serving.specs.Good.{Lasts, OtherNumber, IsGoodBatch, IsGood}
use Rattle.ss_serving.proofs.Lists.{filter_all}
use Rattle.ss_serving.proofs.Batches.{is_it}
use Rattle.ss_text.proofs.Basics.{both_left}
use Rattle.ss_bso.proofs.Places.{apart_flip}
use Rattle.std.proofs.lemmas.Bool.{eqb-true}

abbrev all_rows : Query
all_rows = record { ids = None; newer = None; older = None; limit = None; offset = 0; sort = Oldest; full = true }

sheets_by_answer : (rows : List Row) → map sheet_of (answer (rows_of bookmarks rows) all_rows).rows ≡ sheets_of rows
sheets_by_answer rows = ap (λ (found : List Row). map sheet_of (sorted (comes_before Oldest) found)) (filter_all (is_asked all_rows) (rows_of bookmarks rows) (λ row. refl))

pub sheets-reordered : (rows others : List Row) → IsReordering rows others → Pairs Apart rows → sheets_of rows ≡ sheets_of others
sheets-reordered rows others r places =
    sym (sheets_by_answer rows)
    ∙ ap (λ (found : Picked). map sheet_of found.rows) (answer-reordered (rows_of bookmarks rows) (rows_of bookmarks others) all_rows (reordered-filter (λ row. bytes_eq row.collection bookmarks) r) (ids_distinct bookmarks rows places))
    ∙ sheets_by_answer others

not_both : (n : ℕ) (batch other : Staged) → OtherNumber batch other → NotBoth (is_it bookmarks n) batch other
not_both n batch other differ =
    elim (is_it bookmarks n batch) as (λ v. is_it bookmarks n batch ≡ v → (v && is_it bookmarks n other) ≡ false) [
      | true ↦ (λ t.
          elim (is_it bookmarks n other) as (λ w. is_it bookmarks n other ≡ w → w ≡ false) [
            | true ↦ (λ u. absurd (differ (eqb-true batch.number n (both_left (batch.number == n) (bytes_eq batch.collection bookmarks) t) ∙ sym (eqb-true other.number n (both_left (other.number == n) (bytes_eq other.collection bookmarks) u)))))
            | false ↦ (λ u. refl)
          ] refl)
      | false ↦ (λ t. refl)
    ] refl

-- the batch of a number is the same in either order
pub batch-reordered : (n : ℕ) (batches others : List Staged) → IsReordering batches others → Pairs OtherNumber batches → batch_in bookmarks n batches ≡ batch_in bookmarks n others
batch-reordered n batches others r numbers =
    find-reordered (is_it bookmarks n) r (Pairs-imp OtherNumber (NotBoth (is_it bookmarks n)) (λ (batch : Staged). Unit {0}) (λ batch one _ _ differ. not_both n batch one differ) batches (Each-any batches) numbers)

pub other_turned : (batch other : Staged) → OtherNumber batch other → OtherNumber other batch
other_turned batch other differ = λ e. differ (sym e)

-- the collection's time is the same
pub time-reordered : (account other : Plain) → Pairs NamedApart account.collections → SameAccount account other → collection_time account bookmarks ≡ collection_time other bookmarks
time-reordered account other names s =
    ap (λ (o : Option ℕ). unwrap_or o account.last_delete) (time-same bookmarks account.collections other.collections s.collections names)
    ∙ ap (λ (last : ℕ). unwrap_or (time_of bookmarks other.collections) last) s.last_delete

pub good-same : {first : ℕ} (account other : Plain) → Pairs NamedApart account.collections → SameAccount account other → IsGood first account → IsGood first other
good-same {first} account other names s g = record {
  places = Pairs-reordered Apart apart_flip s.rows g.places;
  number = subst (λ n. n ≤ most_rows_and_collections) (length-reordered s.rows) g.number;
  lasting = Each-reordered Lasts s.rows g.lasting;
  below = subst (λ n. n ≤ other.store) (time-reordered account other names s) (subst (λ n. collection_time account bookmarks ≤ n) s.store g.below);
  since = subst (λ n. first ≤ n) s.counter g.since;
  numbers = Pairs-reordered OtherNumber other_turned s.batches g.numbers;
  batches = subst (λ n. Each (IsGoodBatch first n) other.batches) s.counter (Each-reordered (IsGoodBatch first account.counter) s.batches g.batches);
}
