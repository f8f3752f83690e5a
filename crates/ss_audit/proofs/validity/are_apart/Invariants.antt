use Rattle.std.proofs.Common.{◌≡◌, ℕ, ◌&&◌, List, bytes_eq, take}
use Rattle.std.specs.List.{list_any}
use Rattle.ss_bso.specs.Lists.{Apart, Pairs}
use Rattle.ss_audit.specs.Validity.{is_placed}
use Rattle.ss_audit.proofs.validity.are_apart.Given as goal

abbrev pub invariant-loop-row : goal.invariant-loop-row
invariant-loop-row l = record {
  places : (collection id : List ℕ) → is_placed l.places.keys collection id ≡ list_any (λ row. bytes_eq collection row.collection && bytes_eq id row.id) (take l.row-index l.rows);
  apart : Pairs Apart (take l.row-index l.rows);
}
