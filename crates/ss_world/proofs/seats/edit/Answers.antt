use Rattle.std.proofs.Common.{subst}
use Rattle.ss_tree.specs.Entries.{IsTree}
use Rattle.ss_world.proofs.seats.edit.Goals as goal

pub returns-clause-is_tree : goal.returns-clause-is_tree
returns-clause-is_tree c = subst IsTree c.tree-tree.ensures.tree c.find_edited-node.ensures
