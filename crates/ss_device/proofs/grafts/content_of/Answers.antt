use Rattle.std.proofs.Common.{◌≡◌, Some, sym, ap, ◌∙◌}
use Rattle.std.proofs.lemmas.Result.{IfOk-weaker}
use Rattle.ss_record.specs.Items.{is_fit}
use Rattle.ss_tree.specs.Trees.{PlacedItem, node}
use Rattle.ss_tree.specs.Entries.{tree}
use Rattle.ss_device.proofs.Refused.{not_there, item_is}
use Rattle.ss_device.proofs.grafts.content_of.Goals as goal

pub returns-clause-content : goal.returns-clause-content
returns-clause-content c =
    IfOk-weaker c.copy.result _ (λ content. (n : PlacedItem) → node c.args.id.now (tree c.args.tree.now) ≡ Some n → n.content ≡ content)
    (λ content e n q. ap (λ i. i.content) (item_is c.args.tree.now c.find.ensures.kept c.args.id.now c.in-Some.at (sym c.find.ensures.node ∙ c.in-Some.is) c.item.result.now c.item.ensures n q) ∙ (sym c.content.ensures.content ∙ sym e)) c.copy.ensures

pub returns-clause-fit : goal.returns-clause-fit
returns-clause-fit c = λ n q. ap is_fit (item_is c.args.tree.now c.find.ensures.kept c.args.id.now c.in-Some.at (sym c.find.ensures.node ∙ c.in-Some.is) c.item.result.now c.item.ensures n q) ∙ c.content.ensures.fit

pub unreachable-requires : goal.unreachable-requires
unreachable-requires c = not_there c.args.tree.now c.args.id.now c.requires (sym c.find.ensures.node ∙ c.in_default.is)
