use Rattle.std.proofs.Common.{◌≡◌, ◌++◌, map, take}
use Rattle.std.specs.List.{flat_map}
use Rattle.ss_dump.specs.Dumps.{batch_lines, text_of}
use Rattle.ss_dump.proofs.dumping.push_batches.Given as goal

abbrev pub invariant-loop-staged : goal.invariant-loop-staged
invariant-loop-staged l = l.out.items ≡ l.initial.out.items ++ text_of (flat_map batch_lines (map (λ staged. staged.now) (take l.staged-index l.staged-items)))
