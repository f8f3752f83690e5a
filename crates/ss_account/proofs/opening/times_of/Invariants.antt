use Rattle.std.proofs.Common.{◌≡◌, ℕ, List, None, bytes_eq, take}
use Rattle.std.specs.HashMap.{get}
use Rattle.ss_bso.specs.Account.{time_of}
use Rattle.ss_account.specs.Opening.{first_bad, is_bad_collection}
use Rattle.ss_account.proofs.opening.times_of.Given as goal

abbrev pub invariant-loop-entry : goal.invariant-loop-entry
invariant-loop-entry l = record {
  number : l.n ≡ l.entry-index;
  same : l.last ≡ l.fn.store;
  times : (name : List ℕ) → get bytes_eq l.times name ≡ time_of name (take l.entry-index l.collections);
  good : first_bad (is_bad_collection l.fn.store) (take l.entry-index l.collections) ≡ None;
}
