use Rattle.std.proofs.Common.{◌≡◌, map, take}
use Rattle.ss_bso.specs.declared.changes.BatchChange.TheVariants.{End}
use Rattle.ss_writes.proofs.ended.Ended.ends.Given as goal

abbrev pub invariant-loop-number : goal.invariant-loop-number
invariant-loop-number l = l.changes.items ≡ map End (take l.number-index l.self)
