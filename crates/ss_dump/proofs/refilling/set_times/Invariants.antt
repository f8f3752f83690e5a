use Rattle.std.proofs.Common.{◌≡◌, map, take}
use Rattle.ss_bso.specs.declared.changes.CollectionChange.TheVariants.{Set}
use Rattle.ss_dump.proofs.refilling.set_times.Given as goal

abbrev pub invariant-loop-entry : goal.invariant-loop-entry
invariant-loop-entry l = l.changes.items ≡ map (λ entry. Set entry.0 entry.1) (take l.entry-index l.times)
