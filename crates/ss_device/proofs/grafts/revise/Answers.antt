use Rattle.std.proofs.Common.{cond, sym, ap, ◌∙◌, option_map, bytes_eq, false, unwrap_or}
use Rattle.ss_record.specs.Items.{is_fit}
use Rattle.ss_tree.specs.declared.entries.Entry.{Entry}
use Rattle.ss_tree.specs.Trees.{node}
use Rattle.ss_tree.specs.Entries.{is_fit_with, placed, tree}
use Rattle.ss_device.specs.Edits.{revised_node}
use Rattle.ss_device.proofs.ByIds.{set_nodes}
use Rattle.ss_device.proofs.Refused.{not_there, there, top_is}
use Rattle.ss_device.proofs.grafts.revise.Goals as goal

pub set_item-requires-clause-inside : goal.set_item-requires-clause-inside
set_item-requires-clause-inside c = sym (top_is c.args.tree.now c.find.ensures.kept c.args.id.now c.in-Some.at (sym c.find.ensures.node ∙ c.in-Some.is)) ∙ c.requires.inner

pub set_item-requires-clause-fit : goal.set_item-requires-clause-fit
unfolding is_fit_with placed
set_item-requires-clause-fit c =
    let f = there c.args.tree.now c.find.ensures.kept c.args.id.now c.in-Some.at (sym c.find.ensures.node ∙ c.in-Some.is) in
    ap (λ o. unwrap_or (option_map (λ (e : Entry). is_fit (record { id = e.item.id; kind = e.item.kind; content = c.args.content })) o) false) f.1 ∙ c.requires.fit (placed c.args.tree.now f.0) f.3

pub returns-clause-nodes : goal.returns-clause-nodes
returns-clause-nodes c = λ y.
    let f = there c.args.tree.now c.find.ensures.kept c.args.id.now c.in-Some.at (sym c.find.ensures.node ∙ c.in-Some.is) in
    set_nodes c.args.tree.now c.set_item.new.self c.find.ensures.kept c.find-kept.ensures.kept c.in-Some.at f.0 f.1 c.args.content c.args.time c.set_item.ensures.entries c.set_item.ensures.kids y
    ∙ ap (λ z. option_map (λ n. cond (bytes_eq n.id z) (revised_node c.args.content c.args.time n) n) (node y (tree c.args.tree.now))) f.2

pub unreachable-requires : goal.unreachable-requires
unreachable-requires c = not_there c.args.tree.now c.args.id.now c.requires.there (sym c.find.ensures.node ∙ c.in_default.is)
