use Rattle.std.proofs.Common.{◌≡◌, take}
use Rattle.ss_writes.specs.Parts.{IsSize}
use Rattle.ss_audit.proofs.validity.is_within_limits.Given as goal

abbrev pub invariant-loop-row : goal.invariant-loop-row
invariant-loop-row l = record {
  items : l.row-items ≡ l.fn.account.rows;
  size : IsSize (take l.row-index l.row-items) l.size;
}
