use Rattle.std.proofs.Common.{◌≡◌, take}
use Rattle.ss_bso.specs.Lists.{Each}
use Rattle.ss_audit.specs.Validity.{IsItem}
use Rattle.ss_audit.proofs.validity.are_items.Given as goal

abbrev pub invariant-loop-row : goal.invariant-loop-row
invariant-loop-row l = record {
  items : l.row-items ≡ l.fn.account.rows;
  each : Each (IsItem l.fn.account.collections) (take l.row-index l.row-items);
}
