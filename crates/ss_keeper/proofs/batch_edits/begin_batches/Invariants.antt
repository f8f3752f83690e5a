use Rattle.std.proofs.Common.{◌≡◌, ◌++◌, take}
use Rattle.std.specs.Prelude.{filter_map}
use Rattle.ss_bso.specs.Changes.{begun_by}
use Rattle.ss_keeper.proofs.batch_edits.begin_batches.Given as goal

abbrev pub invariant-loop-change : goal.invariant-loop-change
invariant-loop-change l = l.held.items ≡ l.initial.held.items ++ filter_map begun_by (take l.change-index l.changes)
