use Rattle.std.proofs.Common.{◌≡◌, ◌==◌, ◌||◌, filter, take}
use Rattle.ss_tree.specs.Entries.{is_below}
use Rattle.ss_device.proofs.removal.below.Given as goal

abbrev pub invariant-loop-node : goal.invariant-loop-node
invariant-loop-node l = l.nodes.items ≡ filter (λ k. (l.top == k) || is_below l.tree l.top k) (take l.node-index l.node-items)
