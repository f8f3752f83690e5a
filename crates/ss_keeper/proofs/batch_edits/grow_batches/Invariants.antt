use Rattle.std.proofs.Common.{◌≡◌, ◌++◌, drop, map, take}
use Rattle.ss_bso.specs.Batches.{grown}
use Rattle.ss_keeper.proofs.batch_edits.grow_batches.Given as goal

abbrev pub invariant-loop-staged : goal.invariant-loop-staged
invariant-loop-staged l = l.staged-items ≡ map (grown l.number l.parts) (take l.staged-index l.initial.staged-items) ++ drop l.staged-index l.initial.staged-items
