use Rattle.std.proofs.Common.{◌∙◌, ap, sym, is_some}
use Rattle.ss_plan.proofs.gone.is_in.Goals as goal
use Rattle.ss_tree.proofs.Looked.{in_tree}

pub returns : goal.returns
returns c = c.is_some.ensures ∙ (ap is_some c.find.ensures.node ∙ sym (in_tree c.args.tree.now c.args.id.now))
