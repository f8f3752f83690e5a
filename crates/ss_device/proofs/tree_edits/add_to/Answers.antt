use Rattle.std.proofs.Common.{◌≡◌, inr, true, sym, ap, ◌∙◌, is_some}
use Rattle.ss_record.specs.Items.{is_fit}
use Rattle.ss_tree.specs.Entries.{tree}
use Rattle.ss_device.proofs.Composed.{add_same, grown_parent, grown_there}
use Rattle.ss_device.proofs.Refused.{add_apart, add_no_parent, add_parts, takes_inner, node_there}
use Rattle.ss_device.proofs.tree_edits.add_to.Goals as goal
use Rattle.ss_text.proofs.Basics.{is_none}

pub returns-then-is_none-clause-refused : goal.returns-then-is_none-clause-refused
returns-then-is_none-clause-refused c = inr (add_no_parent c.args.tree.now c.args.parent.now c.args.item.id (sym c.find.ensures.node ∙ is_none c.find.result c.if-is_none.ensures))

pub content_of-requires : goal.content_of-requires
content_of-requires c = node_there c.args.tree.now c.args.parent.now ∙ (ap is_some (sym c.find.ensures.node) ∙ c.if-is_none.ensures)

pub touch-requires-clause-there : goal.touch-requires-clause-there
touch-requires-clause-there c =
    grown_there (tree c.args.tree.now) (tree c.insert.new.tree) c.args.time c.args.parent.now c.args.item c.in_ok-insert.ensures.nodes (node_there c.args.tree.now c.args.parent.now ∙ (ap is_some (sym c.find.ensures.node) ∙ c.if-is_none.ensures))

pub touch-requires-clause-inner : goal.touch-requires-clause-inner
touch-requires-clause-inner c = takes_inner (tree c.args.tree.now) c.args.parent.now (add_parts c.args.tree.now c.args.parent.now c.args.item.id c.in_ok-insert.ensures.refused).1

pub touch-requires-clause-content : goal.touch-requires-clause-content
touch-requires-clause-content c = λ n q.
    grown_parent (tree c.args.tree.now) (tree c.insert.new.tree) c.args.time c.args.parent.now c.args.item (add_apart c.args.tree.now c.args.parent.now c.args.item.id c.in_ok-insert.ensures.refused) c.in_ok-insert.ensures.nodes
    (λ i. i.content ≡ c.in_ok-content.content) c.in_ok-content.ensures.content n q

pub touch-requires-clause-fit : goal.touch-requires-clause-fit
touch-requires-clause-fit c = λ n q.
    grown_parent (tree c.args.tree.now) (tree c.insert.new.tree) c.args.time c.args.parent.now c.args.item (add_apart c.args.tree.now c.args.parent.now c.args.item.id c.in_ok-insert.ensures.refused) c.in_ok-insert.ensures.nodes
    (λ i. is_fit i ≡ true) c.in_ok-content.ensures.fit n q

pub returns-clause-same : goal.returns-clause-same
returns-clause-same c = add_same (tree c.args.tree.now) (tree c.insert.new.tree) (tree c.touch.new.tree) c.args.time c.args.parent.now c.args.item c.in_ok-insert.ensures.nodes c.touch.ensures.nodes
