use Rattle.std.proofs.Common.{sym, ◌∙◌}
use Rattle.std.proofs.lemmas.Result.{IfOk-weaker}
use Rattle.ss_device.specs.Removal.{CanGo}
use Rattle.ss_device.proofs.Going.{can_go}
use Rattle.ss_device.proofs.Refused.{not_there}
use Rattle.ss_device.proofs.removal.within.Goals as goal

pub unreachable-requires : goal.unreachable-requires
unreachable-requires c = not_there c.args.tree.now c.args.id.now c.requires.there (sym c.find.ensures.node ∙ c.in_default.is)

pub returns : goal.returns
returns c =
    IfOk-weaker c.below.result _ (λ nodes. CanGo c.args.tree.now c.args.id.now nodes.items)
    (λ nodes e. can_go c.args.tree.now c.find.ensures.kept c.args.id.now c.in-Some.top (sym c.find.ensures.node ∙ c.in-Some.is) c.requires.loose nodes.items e) c.below.ensures.nodes
