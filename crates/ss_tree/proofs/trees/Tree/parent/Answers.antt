use Rattle.ss_tree.proofs.Seen.{parent_is}
use Rattle.ss_tree.proofs.trees.Tree.parent.Goals as goal

pub returns-clause-node : goal.returns-clause-node
returns-clause-node c = rw (← c.self.view_is, c.parent_at.ensures, c.deref.ensures.value, c.number.ensures) (parent_is c.self.inside.cells.items c.self.invariant.0 c.args.node)
