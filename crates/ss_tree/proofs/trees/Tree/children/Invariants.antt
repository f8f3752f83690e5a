use Rattle.std.proofs.Common.{◌-◌, length}
use Rattle.ss_tree.specs.Entries.{IsTree, kids}
use Rattle.ss_tree.proofs.Walked.{InRow}
use Rattle.ss_tree.proofs.trees.Tree.children.Given as goal

abbrev pub invariant-loop-at : goal.invariant-loop-at
invariant-loop-at l = record {
  valid : IsTree l.self;
  stands : InRow l.self l.fn.node l.at l.nodes.items;
}

abbrev pub decreases-loop-at : goal.decreases-loop-at
decreases-loop-at l = length (kids l.fn.node l.self) - length l.nodes.items
