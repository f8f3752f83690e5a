use Rattle.std.proofs.Common.{◌≡◌, take}
use Rattle.std.specs.Prelude.{fold}
use Rattle.ss_bso.specs.Changes.{batch_grown}
use Rattle.ss_keeper.proofs.batch_edits.append_all.Given as goal

abbrev pub invariant-loop-change : goal.invariant-loop-change
invariant-loop-change l = l.held.items ≡ fold batch_grown l.initial.held.items (take l.change-index l.changes)
