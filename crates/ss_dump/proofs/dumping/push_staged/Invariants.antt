use Rattle.std.proofs.Common.{◌≡◌, ◌++◌, map, take}
use Rattle.ss_lines.specs.declared.lines.Line.TheVariants.{Part as PartLine}
use Rattle.ss_dump.specs.Dumps.{text_of}
use Rattle.ss_dump.proofs.dumping.push_staged.Given as goal

abbrev pub invariant-loop-part : goal.invariant-loop-part
invariant-loop-part l = l.out.items ≡ l.initial.out.items ++ text_of (map (λ p. PartLine p) (take l.part-index l.part-items))
