-- The two limits on an account's rows and collections, one by one.
use Rattle.std.specs.Prelude.{◌≡◌, ◌≤◌, ◌+◌, ℕ, false, List, length, ◌||◌, nat_lt}
use Rattle.std.proofs.Common.{arith}
use Rattle.std.proofs.lemmas.Bool.Decides.{nat_tests}
use Rattle.ss_bso.specs.declared.rows.Row.{Row}
use Rattle.ss_bso.specs.Limits.{is_too_much, most_account_payload_bytes, most_rows_and_collections, row_bytes}

pub within-bytes : (rows : List Row) (collections : ℕ) → is_too_much rows collections ≡ false → row_bytes rows ≤ most_account_payload_bytes
within-bytes rows collections e = grind (arith, nat_tests)

pub within-number : (rows : List Row) (collections : ℕ) → is_too_much rows collections ≡ false → length rows + collections ≤ most_rows_and_collections
within-number rows collections e = grind (arith, nat_tests)

pub within-both : (rows : List Row) (collections : ℕ) → row_bytes rows ≤ most_account_payload_bytes → length rows + collections ≤ most_rows_and_collections → is_too_much rows collections ≡ false
within-both rows collections bytes number = grind (arith, nat_tests)
