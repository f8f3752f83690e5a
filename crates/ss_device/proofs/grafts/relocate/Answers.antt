use Rattle.std.proofs.Common.{Some, sym, ap, ◌∙◌, option_map}
use Rattle.ss_tree.specs.Trees.{node}
use Rattle.ss_tree.specs.Entries.{tree}
use Rattle.ss_device.specs.Edits.{moved_only}
use Rattle.ss_device.specs.Refusals.{edit_of_move}
use Rattle.ss_device.proofs.Changes.{move_nodes}
use Rattle.ss_device.proofs.Refused.{move_fault_is, move_no_bad_place, move_no_item, move_no_parent, there}
use Rattle.ss_device.proofs.grafts.relocate.Goals as goal

pub returns-in_default-clause-refused : goal.returns-in_default-clause-refused
returns-in_default-clause-refused c = move_no_item c.args.tree.now c.args.id.now c.args.parent.now (sym c.find.ensures.node ∙ c.in_default.is)

pub returns-in_default-find-clause-refused : goal.returns-in_default-find-clause-refused
returns-in_default-find-clause-refused c = move_no_parent c.args.tree.now c.args.id.now c.args.parent.now (sym c.find-2.ensures.node ∙ c.in_default-find.is)

pub not_moved-requires : goal.not_moved-requires
not_moved-requires c = λ q. move_no_bad_place c.args.tree.now c.find.ensures.kept c.args.parent.now c.in-Some-find.at (sym c.find-2.ensures.node ∙ c.in-Some-find.is) c.args.id.now c.in-Some.node (sym c.find.ensures.node ∙ c.in-Some.is) (c.in-Err.ensures.refused ∙ ap Some q)

pub returns-in-Ok-clause-refused : goal.returns-in-Ok-clause-refused
returns-in-Ok-clause-refused c = move_fault_is c.args.tree.now c.find.ensures.kept c.args.parent.now c.in-Some-find.at (sym c.find-2.ensures.node ∙ c.in-Some-find.is) c.args.id.now c.in-Some.node (sym c.find.ensures.node ∙ c.in-Some.is) ∙ ap (option_map edit_of_move) c.in-Ok.ensures.refused

pub returns-in-Ok-clause-nodes : goal.returns-in-Ok-clause-nodes
returns-in-Ok-clause-nodes c = λ y.
    let f = there c.args.tree.now c.find.ensures.kept c.args.id.now c.in-Some.node (sym c.find.ensures.node ∙ c.in-Some.is) in
    let g = there c.args.tree.now c.find.ensures.kept c.args.parent.now c.in-Some-find.at (sym c.find-2.ensures.node ∙ c.in-Some-find.is) in
    move_nodes c.args.tree.now c.move_to-moved.new.self c.find.ensures.kept c.find-kept.ensures.kept c.in-Some.node f.0 f.1 c.in-Some-find.at g.0 g.1 c.in-Ok.ensures.entries c.in-Ok.ensures.kids y
    ∙ (ap (λ z. option_map (moved_only z g.0.item.id) (node y (tree c.args.tree.now))) f.2 ∙ ap (λ z. option_map (moved_only c.args.id.now z) (node y (tree c.args.tree.now))) g.2)

pub returns-in-Err-clause-refused : goal.returns-in-Err-clause-refused
returns-in-Err-clause-refused c = move_fault_is c.args.tree.now c.find.ensures.kept c.args.parent.now c.in-Some-find.at (sym c.find-2.ensures.node ∙ c.in-Some-find.is) c.args.id.now c.in-Some.node (sym c.find.ensures.node ∙ c.in-Some.is) ∙ (ap (option_map edit_of_move) c.in-Err.ensures.refused ∙ ap Some (sym c.not_moved.ensures))
