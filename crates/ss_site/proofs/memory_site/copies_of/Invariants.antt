use Rattle.std.specs.Prelude.{◌≡◌, map, take}
use Rattle.ss_site.proofs.memory_site.copies_of.Given as goal

-- copies of the journals so far
abbrev pub invariant-loop-uid : goal.invariant-loop-uid
invariant-loop-uid l = l.copies.items ≡ map (λ journal. (journal.0, journal.1.now)) (take l.uid-index l.journals)
