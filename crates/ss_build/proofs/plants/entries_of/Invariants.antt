use Rattle.std.proofs.Common.{◌≡◌, ◌∷◌, map, take}
use Rattle.ss_tree.specs.Entries.{top_entry}
use Rattle.ss_build.specs.Planted.{planted_entry}
use Rattle.ss_build.proofs.plants.entries_of.Given as goal

abbrev pub invariant-loop-at : goal.invariant-loop-at
invariant-loop-at l = l.entries.items ≡ top_entry ∷ map (planted_entry l.claims l.parents) (take l.at-index l.order)
