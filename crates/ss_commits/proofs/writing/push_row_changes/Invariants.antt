use Rattle.std.proofs.Common.{◌≡◌, ◌++◌, map, take}
use Rattle.ss_commits.specs.Commits.{row_note, text_of}
use Rattle.ss_commits.proofs.writing.push_row_changes.Given as goal

abbrev pub invariant-loop-change : goal.invariant-loop-change
invariant-loop-change l = l.out.items ≡ l.initial.out.items ++ text_of (map row_note (take l.change-index l.changes))
