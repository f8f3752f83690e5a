use Rattle.std.proofs.Common.{◌≡◌, take, map}
use Rattle.ss_tree.specs.Entries.{id_at}
use Rattle.ss_plan.proofs.seats.children_of.Given as goal

abbrev pub invariant-loop-child : goal.invariant-loop-child
invariant-loop-child l = l.ids.items ≡ map (id_at l.tree) (take l.child-index l.child-items)
