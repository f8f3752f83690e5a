use Rattle.std.proofs.Common.{◌≡◌, ℕ, List, ◌++◌, vec_len}
use Rattle.ss_device.proofs.Gone.{Left}
use Rattle.ss_device.proofs.removal.remove_all.Given as goal

abbrev pub decreases-loop-node : goal.decreases-loop-node
decreases-loop-node l = vec_len l.left

abbrev pub invariant-loop-node : goal.invariant-loop-node
invariant-loop-node l = (gone : List ℕ) × (l.initial.left.items ≡ l.left.items ++ gone) × Left l.initial.tree l.tree gone
