use Rattle.ss_tree.specs.Entries.{tree}
use Rattle.ss_device_file.proofs.Planted.{IsGrown}
use Rattle.ss_device_file.proofs.plants.plant.Given as goal

abbrev pub invariant-loop-line : goal.invariant-loop-line
invariant-loop-line l = IsGrown l.items l.line-index (tree l.tree)
