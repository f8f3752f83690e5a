use Rattle.std.proofs.Common.{◌≡◌, sym, ap, ◌∙◌, bytes_eq, is_some}
use Rattle.std.proofs.lemmas.Result.{IfOk-weaker}
use Rattle.ss_record.specs.Ids.{places}
use Rattle.ss_tree.specs.Trees.{node, parent_in}
use Rattle.ss_tree.specs.Entries.{tree}
use Rattle.ss_device.specs.Edits.{is_within}
use Rattle.ss_device.proofs.Going.{folder_out, top_inner}
use Rattle.ss_device.proofs.Refused.{not_there, has_folder, folder_facts}
use Rattle.ss_device.proofs.tree_edits.parent_of.Goals as goal

pub unreachable-requires : goal.unreachable-requires
unreachable-requires c = not_there c.args.tree.now c.args.id.now c.requires.there (sym c.find.ensures.node ∙ c.in_default.is)

pub unreachable-requires-in_default-parent : goal.unreachable-requires-in_default-parent
unreachable-requires-in_default-parent c = has_folder c.args.tree.now c.find.ensures.kept c.args.id.now c.in-Some.at (sym c.find.ensures.node ∙ c.in-Some.is) c.requires.loose (sym c.parent.ensures.node ∙ c.in_default-parent.is)

pub returns-clause-id : goal.returns-clause-id
returns-clause-id c =
    let f = folder_facts c.args.tree.now c.find.ensures.kept c.args.id.now c.in-Some.at (sym c.find.ensures.node ∙ c.in-Some.is) c.requires.loose c.in-Some-parent.above (sym c.parent.ensures.node ∙ c.in-Some-parent.is) c.item.result.now c.item.ensures in
    IfOk-weaker c.copy.result _ (λ p. p ≡ parent_in (tree c.args.tree.now) c.args.id.now) (λ p e. e ∙ (c.id.ensures.id ∙ sym f.0)) c.copy.ensures

pub returns-clause-there : goal.returns-clause-there
returns-clause-there c =
    let f = folder_facts c.args.tree.now c.find.ensures.kept c.args.id.now c.in-Some.at (sym c.find.ensures.node ∙ c.in-Some.is) c.requires.loose c.in-Some-parent.above (sym c.parent.ensures.node ∙ c.in-Some-parent.is) c.item.result.now c.item.ensures in
    ap (λ z. is_some (node z (tree c.args.tree.now))) f.0 ∙ f.1

pub returns-clause-inner : goal.returns-clause-inner
returns-clause-inner c =
    let f = folder_facts c.args.tree.now c.find.ensures.kept c.args.id.now c.in-Some.at (sym c.find.ensures.node ∙ c.in-Some.is) c.requires.loose c.in-Some-parent.above (sym c.parent.ensures.node ∙ c.in-Some-parent.is) c.item.result.now c.item.ensures in
    ap (λ z. bytes_eq z places) f.0 ∙ f.2

pub returns-clause-outside : goal.returns-clause-outside
returns-clause-outside c =
    let at = sym c.find.ensures.node ∙ c.in-Some.is in
    let up = sym c.parent.ensures.node ∙ c.in-Some-parent.is in
    let f = folder_facts c.args.tree.now c.find.ensures.kept c.args.id.now c.in-Some.at at c.requires.loose c.in-Some-parent.above up c.item.result.now c.item.ensures in
    ap (is_within (tree c.args.tree.now) c.args.id.now) f.0
    ∙ folder_out c.args.tree.now c.find.ensures.kept c.args.id.now c.in-Some.at at (top_inner c.args.tree.now c.find.ensures.kept c.args.id.now c.in-Some.at at c.requires.loose) c.in-Some-parent.above up c.item.result.now c.item.ensures
