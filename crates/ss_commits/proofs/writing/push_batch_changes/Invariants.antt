use Rattle.std.proofs.Common.{◌≡◌, ◌++◌, take}
use Rattle.std.specs.List.{flat_map}
use Rattle.ss_commits.specs.Commits.{batch_notes, text_of}
use Rattle.ss_commits.proofs.writing.push_batch_changes.Given as goal

abbrev pub invariant-loop-change : goal.invariant-loop-change
invariant-loop-change l = l.out.items ≡ l.initial.out.items ++ text_of (flat_map batch_notes (take l.change-index l.changes))
