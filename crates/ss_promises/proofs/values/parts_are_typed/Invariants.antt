use Rattle.std.proofs.Common.{take}
use Rattle.std.specs.List.{AllByRecursion}
use Rattle.ss_promises.specs.Values.{IsTypedPart}
use Rattle.ss_promises.proofs.values.parts_are_typed.Given as goal

abbrev pub invariant-loop-part : goal.invariant-loop-part
invariant-loop-part l = AllByRecursion IsTypedPart (take l.part-index l.parts)
