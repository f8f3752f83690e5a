use Rattle.std.proofs.Common.{◌≡◌, ◌++◌, map, take}
use Rattle.ss_bso.specs.declared.changes.BatchChange.TheVariants.{End}
use Rattle.ss_writes.specs.Pending.{numbers_of}
use Rattle.ss_writes.proofs.pending.push_ends.Given as goal

abbrev pub invariant-loop-staged : goal.invariant-loop-staged
invariant-loop-staged l = l.changes.items ≡ l.initial.changes.items ++ map End (numbers_of (take l.staged-index l.batches))
