use Rattle.std.proofs.Common.{◌≡◌, fold, take}
use Rattle.ss_writes.specs.Parts.{with_part_id}
use Rattle.ss_writes.proofs.targets.Targets.add_parts.Given as goal

abbrev pub invariant-loop-part : goal.invariant-loop-part
invariant-loop-part l = l.self ≡ fold with_part_id l.initial.self (take l.part-index l.parts)
