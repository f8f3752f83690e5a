use Rattle.std.proofs.Common.{◌≡◌, ◌≤◌, ◌+◌, ◌++◌, not, filter, length, take}
use Rattle.ss_bso.specs.Account.{is_open}
use Rattle.ss_writes.specs.Pending.{numbers_of}
use Rattle.ss_writes.proofs.ended.Ended.note.Given as goal

abbrev pub invariant-loop-staged : goal.invariant-loop-staged
invariant-loop-staged l = record {
  numbers : l.self ≡ l.initial.self ++ numbers_of (filter (λ batch. not (is_open l.moment batch)) (take l.staged-index l.batches));
  room : length l.self ≤ length l.initial.self + l.staged-index;
}
