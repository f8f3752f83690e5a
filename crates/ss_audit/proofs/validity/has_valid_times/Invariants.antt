use Rattle.std.proofs.Common.{◌≡◌, ◌≤◌, ℕ, List, take}
use Rattle.ss_bso.specs.Lists.{Each}
use Rattle.ss_audit.proofs.validity.has_valid_times.Given as goal

abbrev pub invariant-loop-entry : goal.invariant-loop-entry
invariant-loop-entry l = record {
  items : l.entry-items ≡ l.fn.account.collections;
  times : Each (λ (entry : List ℕ × ℕ). entry.1 ≤ l.fn.account.store) (take l.entry-index l.entry-items);
}
