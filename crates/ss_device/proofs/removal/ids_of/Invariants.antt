use Rattle.std.proofs.Common.{◌≡◌, map, take}
use Rattle.ss_device.proofs.ByIds.{name_at}
use Rattle.ss_device.proofs.removal.ids_of.Given as goal

abbrev pub invariant-loop-node : goal.invariant-loop-node
invariant-loop-node l = l.ids.items ≡ map (name_at l.tree) (take l.node-index l.nodes)
