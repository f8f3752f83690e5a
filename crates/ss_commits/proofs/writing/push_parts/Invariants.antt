use Rattle.std.proofs.Common.{◌≡◌, ◌++◌, map, take}
use Rattle.ss_commits.specs.Commits.{part_note, text_of}
use Rattle.ss_commits.proofs.writing.push_parts.Given as goal

abbrev pub invariant-loop-part : goal.invariant-loop-part
invariant-loop-part l = l.out.items ≡ l.initial.out.items ++ text_of (map part_note (take l.part-index l.parts))
