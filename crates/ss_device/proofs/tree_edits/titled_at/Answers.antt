use Rattle.std.proofs.Common.{bytes_eq, ◌≡◌, Some, sym, ap, ◌∙◌}
use Rattle.std.proofs.lemmas.Result.{IfOk-weaker}
use Rattle.ss_record.specs.Ids.{places}
use Rattle.ss_record.specs.Items.{is_fit}
use Rattle.ss_tree.specs.Trees.{PlacedItem, node}
use Rattle.ss_tree.specs.Entries.{tree}
use Rattle.ss_device.specs.Edits.{titled}
use Rattle.ss_device.proofs.Refused.{item_id, not_there, item_is}
use Rattle.ss_device.proofs.tree_edits.titled_at.Goals as goal

pub unreachable-requires : goal.unreachable-requires
unreachable-requires c = not_there c.args.tree.now c.args.id.now c.requires.there (sym c.find.ensures.node ∙ c.in_default.is)

pub titled-requires : goal.titled-requires
titled-requires c = ap (λ z. bytes_eq z places) (item_id c.args.tree.now c.find.ensures.kept c.args.id.now c.in-Some.at (sym c.find.ensures.node ∙ c.in-Some.is) c.item.result.now c.item.ensures) ∙ c.requires.inner

pub returns-clause-content : goal.returns-clause-content
returns-clause-content c =
    IfOk-weaker c.titled.result _ (λ content. (n : PlacedItem) → node c.args.id.now (tree c.args.tree.now) ≡ Some n → titled c.args.title.now n.content ≡ content)
    (λ content e n q. ap (λ i. titled c.args.title.now i.content) (item_is c.args.tree.now c.find.ensures.kept c.args.id.now c.in-Some.at (sym c.find.ensures.node ∙ c.in-Some.is) c.item.result.now c.item.ensures n q) ∙ sym e) c.titled.ensures.text

pub returns-clause-fit : goal.returns-clause-fit
returns-clause-fit c = λ n q.
    ap (λ i. is_fit (record { id = i.id; kind = i.kind; content = titled c.args.title.now i.content })) (item_is c.args.tree.now c.find.ensures.kept c.args.id.now c.in-Some.at (sym c.find.ensures.node ∙ c.in-Some.is) c.item.result.now c.item.ensures n q) ∙ c.titled.ensures.fit
