use Rattle.std.proofs.Common.{◌≡◌, take, map}
use Rattle.ss_device.proofs.ByIds.{name_at}
use Rattle.ss_device.proofs.writing.children_of.Given as goal

abbrev pub invariant-loop-child : goal.invariant-loop-child
invariant-loop-child l = l.ids.items ≡ map (name_at l.tree) (take l.child-index l.child-items)
