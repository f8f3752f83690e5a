use Rattle.std.proofs.Common.{◌≤◌, ◌-◌, length}
use Rattle.ss_tree.specs.Entries.{IsTree, preorder}
use Rattle.ss_tree.proofs.Walked.{Stands}
use Rattle.ss_tree.proofs.trees.Tree.walk.Given as goal

abbrev pub invariant-loop-at : goal.invariant-loop-at
invariant-loop-at l = record {
  valid : IsTree l.self;
  long : length l.self ≤ l.rounds;
  stands : Stands l.self l.at l.nodes.items;
}

abbrev pub decreases-loop-at : goal.decreases-loop-at
decreases-loop-at l = length (preorder l.self (length l.self) 0) - length l.nodes.items
