use Rattle.std.proofs.Common.{◌≡◌, map, take}
use Rattle.ss_bso.specs.declared.changes.RowChange.TheVariants.{Drop}
use Rattle.ss_writes.proofs.targets.Targets.drops.Given as goal

abbrev pub invariant-loop-id : goal.invariant-loop-id
invariant-loop-id l = l.changes.items ≡ map (Drop l.collection) (take l.id-index l.ids)
