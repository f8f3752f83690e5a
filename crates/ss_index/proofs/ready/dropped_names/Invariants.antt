use Rattle.std.proofs.Common.{◌≡◌, take}
use Rattle.ss_index.specs.Shelved.{dropped_names}
use Rattle.ss_index.proofs.ready.dropped_names.Given as goal

abbrev pub invariant-loop-change : goal.invariant-loop-change
invariant-loop-change l = l.names.items ≡ dropped_names (take l.change-index l.changes)
