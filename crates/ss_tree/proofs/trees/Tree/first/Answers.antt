use Rattle.ss_tree.proofs.Seen.{first_is}
use Rattle.ss_tree.proofs.Live.{live_first}
use Rattle.ss_tree.specs.Cells.{listing}
use Rattle.ss_tree.proofs.trees.Tree.first.Goals as goal

pub returns-clause-node : goal.returns-clause-node
returns-clause-node c = rw (← c.self.view_is, c.of_link.ensures, c.first_at.ensures, c.deref.ensures.value, c.number.ensures) (first_is c.self.inside.cells.items c.self.invariant.0 c.args.node)

pub returns-clause-live : goal.returns-clause-live
returns-clause-live c =
    rw (← c.self.view_is, c.of_link.ensures, c.first_at.ensures, c.deref.ensures.value, c.number.ensures, first_is c.self.inside.cells.items c.self.invariant.0 c.args.node) (live_first (listing c.self.inside.cells.items) c.args.node c.self.invariant.0.kept.is_tree)
