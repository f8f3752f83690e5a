use Rattle.std.proofs.Common.{◌≡◌, ◌++◌, map, take}
use Rattle.ss_dump.specs.Dumps.{collection_line, text_of}
use Rattle.ss_dump.proofs.dumping.push_collections.Given as goal

abbrev pub invariant-loop-entry : goal.invariant-loop-entry
invariant-loop-entry l = l.out.items ≡ l.initial.out.items ++ text_of (map collection_line (map (λ entry. entry.now) (take l.entry-index l.entry-items)))
