use Rattle.std.proofs.Common.{◌≡◌, ℕ, ◌&&◌, List, None, bytes_eq, take}
use Rattle.std.specs.List.{list_any}
use Rattle.ss_account.specs.Opening.{first_bad, is_bad_row}
use Rattle.ss_account.specs.Places.{is_placed}
use Rattle.ss_writes.specs.Parts.{IsSize}
use Rattle.ss_account.proofs.opening.check_rows.Given as goal

abbrev pub invariant-loop-row : goal.invariant-loop-row
invariant-loop-row l = record {
  number : l.n ≡ l.row-index;
  size : IsSize (take l.row-index l.rows) l.size;
  places : (collection id : List ℕ) → is_placed l.places.keys collection id ≡ list_any (λ row. bytes_eq collection row.collection && bytes_eq id row.id) (take l.row-index l.rows);
  good : first_bad (is_bad_row l.collections) (take l.row-index l.rows) ≡ None;
}
