use Rattle.std.proofs.Common.{◌≡◌, map, take}
use Rattle.ss_bso.specs.declared.changes.CollectionChange.TheVariants.{Drop}
use Rattle.ss_writes.proofs.pending.drop_each.Given as goal

abbrev pub invariant-loop-entry : goal.invariant-loop-entry
invariant-loop-entry l = l.changes.items ≡ map (λ entry. Drop entry.0) (take l.entry-index l.collections)
