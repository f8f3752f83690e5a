use Rattle.std.proofs.Common.{◌≡◌, ◌++◌, bytes_eq, filter, map, take}
use Rattle.ss_bso.specs.declared.changes.BatchChange.TheVariants.{End}
use Rattle.ss_writes.specs.Pending.{numbers_of}
use Rattle.ss_writes.proofs.pending.push_ends_of.Given as goal

abbrev pub invariant-loop-staged : goal.invariant-loop-staged
invariant-loop-staged l = l.changes.items ≡ l.initial.changes.items ++ map End (numbers_of (filter (λ batch. bytes_eq batch.collection l.collection) (take l.staged-index l.batches)))
