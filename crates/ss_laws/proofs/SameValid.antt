-- Validity does not depend on the order of an account's lists.
use Rattle.std.specs.Prelude.{◌≡◌, ℕ, ◌+◌, ◌≤◌, List, length, IsSomeAnd}
use Rattle.std.proofs.Common.{subst, sym, arith}
use Rattle.ss_bso.specs.declared.rows.Row.{Row}
use Rattle.ss_bso.specs.declared.account.Plain.{Plain}
use Rattle.ss_bso.specs.Limits.{most_account_payload_bytes, most_rows_and_collections, row_bytes}
use Rattle.ss_bso.specs.Validity.{IsValid, IsValidBatch, SameAccount}
use Rattle.ss_bso.proofs.Full.{within-both, within-bytes, within-number}
use Rattle.ss_bso.proofs.Lists.{Each-imp, Each-from_All, All-from_Each, Pairs-from_AllPairs, AllPairs-from_Pairs}
use Rattle.ss_bso.proofs.Reordering.{length-reordered, sum_by-reordered, Each-reordered, Pairs-reordered}
use Rattle.ss_bso.specs.Lists.{Each, Pairs, Apart}
use Rattle.ss_laws.proofs.Written.{IsItem}
use Rattle.ss_query.proofs.Orders.{NamedApart}
use Rattle.ss_laws.proofs.SameApi.{time-same, OtherNumber}
use Rattle.ss_text.proofs.Basics.{bytes_eq-flip}
use Rattle.ss_bso.proofs.Places.{apart_flip}

pub valid-same : (account other : Plain) → IsValid account → SameAccount account other → IsValid other
valid-same account other v s =
    let names : Pairs NamedApart account.collections = Pairs-from_AllPairs NamedApart account.collections v.names in
    let bytes : row_bytes account.rows ≡ row_bytes other.rows = sum_by-reordered (λ (row : Row). length row.payload) s.rows in
    let rows : length account.rows ≡ length other.rows = length-reordered s.rows in
    let collections : length account.collections ≡ length other.collections = length-reordered s.collections in
    let batches : length account.batches ≡ length other.batches = length-reordered s.batches in
    record {
      places = AllPairs-from_Pairs Apart other.rows (Pairs-reordered Apart apart_flip s.rows (Pairs-from_AllPairs Apart account.rows v.places));
      names = AllPairs-from_Pairs NamedApart other.collections
          (Pairs-reordered NamedApart (λ entry next e. bytes_eq-flip next.0 entry.0 e) s.collections names);
      limits =
          let light : row_bytes account.rows ≤ most_account_payload_bytes = within-bytes account.rows (length account.collections) v.limits.within in
          let few : length account.rows + length account.collections ≤ most_rows_and_collections = within-number account.rows (length account.collections) v.limits.within in
          record { within = within-both other.rows (length other.collections) (omega (arith, light)) (omega (arith, few)) };
      items = All-from_Each (IsItem other.collections) other.rows
          (Each-reordered (IsItem other.collections) s.rows
          (Each-imp (IsItem account.collections) (IsItem other.collections)
          (λ row h. subst (λ o. IsSomeAnd o (λ time. row.modified ≤ time)) (time-same row.collection account.collections other.collections s.collections names) h)
          account.rows (Each-from_All (IsItem account.collections) account.rows v.items)));
      times = All-from_Each (λ (entry : List ℕ × ℕ). entry.1 ≤ other.store) other.collections
          (Each-reordered (λ (entry : List ℕ × ℕ). entry.1 ≤ other.store) s.collections
          (subst (λ store. Each (λ (entry : List ℕ × ℕ). entry.1 ≤ store) account.collections) s.store
          (Each-from_All (λ (entry : List ℕ × ℕ). entry.1 ≤ account.store) account.collections v.times)));
      store = omega (arith, v.store, s.store, s.moment);
      moment = omega (arith, v.moment, s.moment);
      few = omega (arith, v.few);
      numbers = AllPairs-from_Pairs OtherNumber other.batches
          (Pairs-reordered OtherNumber (λ batch next differ e. differ (sym e)) s.batches (Pairs-from_AllPairs OtherNumber account.batches v.numbers));
      batches = All-from_Each (IsValidBatch other) other.batches
          (Each-reordered (IsValidBatch other) s.batches
          (Each-imp (IsValidBatch account) (IsValidBatch other)
          (λ batch h. record { given = h.given; counted = omega (arith, h.counted, s.counter); begun = omega (arith, h.begun, s.moment); records = h.records; bytes = h.bytes })
          account.batches (Each-from_All (IsValidBatch account) account.batches v.batches)));
    }
