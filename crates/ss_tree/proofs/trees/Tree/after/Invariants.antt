use Rattle.std.proofs.Common.{◌≡◌, ◌-◌}
use Rattle.ss_tree.specs.Walks.{after}
use Rattle.ss_tree.proofs.trees.Tree.after.Given as goal

abbrev pub invariant-loop-round : goal.invariant-loop-round
invariant-loop-round l = after l.self (l.rounds - l._round) l.at ≡ after l.self l.rounds l.fn.node
