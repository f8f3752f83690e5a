use Rattle.std.proofs.Common.{◌≡◌, take}
use Rattle.ss_bso.proofs.account.Batches.copy.Given as goal

abbrev pub invariant-loop-batch : goal.invariant-loop-batch
invariant-loop-batch l = l.batches.items ≡ take l.batch-index l.batch-items
