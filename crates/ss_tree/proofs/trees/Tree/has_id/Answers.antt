use Rattle.std.proofs.Common.{sym, ap, ◌∙◌, is_some}
use Rattle.ss_tree.proofs.Ids.{has_node}
use Rattle.ss_tree.proofs.trees.Tree.has_id.Goals as goal

pub returns : goal.returns
returns c = c.is_some.ensures ∙ (ap is_some c.find.ensures.node ∙ sym (has_node c.args.id.now c.args.self.now))
