use Rattle.std.proofs.Common.{◌≡◌, take}
use Rattle.ss_writes.proofs.editing.copy_batches.Given as goal

abbrev pub invariant-loop-staged : goal.invariant-loop-staged
invariant-loop-staged l = l.copied.items ≡ take l.staged-index l.batches
