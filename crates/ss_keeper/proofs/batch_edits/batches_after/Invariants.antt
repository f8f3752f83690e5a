use Rattle.std.proofs.Common.{◌≡◌, take}
use Rattle.std.specs.Prelude.{fold}
use Rattle.ss_bso.specs.Changes.{batches_changed}
use Rattle.ss_keeper.proofs.batch_edits.batches_after.Given as goal

abbrev pub invariant-loop-commit : goal.invariant-loop-commit
invariant-loop-commit l = l.held.items ≡ fold (λ held commit. batches_changed held commit.batches) l.initial.held.items (take l.commit-index l.commits)
