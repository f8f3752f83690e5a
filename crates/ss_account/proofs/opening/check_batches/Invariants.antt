use Rattle.std.proofs.Common.{◌≡◌, None, take}
use Rattle.ss_account.specs.Opening.{first_bad, is_bad_batch}
use Rattle.ss_account.proofs.opening.check_batches.Given as goal

abbrev pub invariant-loop-staged : goal.invariant-loop-staged
invariant-loop-staged l = record {
  number : l.place ≡ l.staged-index;
  good : first_bad (is_bad_batch l.counter) (take l.staged-index l.batches) ≡ None;
}
