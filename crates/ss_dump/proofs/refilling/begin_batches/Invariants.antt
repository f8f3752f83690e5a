use Rattle.std.proofs.Common.{◌≡◌, map, take}
use Rattle.ss_bso.specs.declared.changes.BatchChange.TheVariants.{Begin}
use Rattle.ss_dump.proofs.refilling.begin_batches.Given as goal

abbrev pub invariant-loop-batch : goal.invariant-loop-batch
invariant-loop-batch l = l.changes.items ≡ map (λ batch. Begin batch) (take l.batch-index l.batches)
