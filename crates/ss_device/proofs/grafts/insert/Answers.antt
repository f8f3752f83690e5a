use Rattle.std.proofs.Common.{Some, None, inl, inr, cond, sym, ap, ◌∙◌, option_map, bytes_eq}
use Rattle.ss_tree.specs.Trees.{node}
use Rattle.ss_tree.specs.Entries.{entry, tree}
use Rattle.ss_device.specs.Edits.{new_node, with_child}
use Rattle.ss_device.specs.Refusals.{edit_of_tree}
use Rattle.ss_device.proofs.Changes.{grown_nodes}
use Rattle.ss_device.proofs.Refused.{add_fault_is, add_no_parent, fresh_id, no_bad_place, there}
use Rattle.ss_device.proofs.grafts.insert.Goals as goal
use Rattle.ss_text.proofs.Basics.{is_none}

pub returns-in_default-clause-refused : goal.returns-in_default-clause-refused
returns-in_default-clause-refused c = inr (add_no_parent c.args.tree.now c.args.parent.now c.args.item.id (sym c.find.ensures.node ∙ c.in_default.is))

pub not_inserted-requires : goal.not_inserted-requires
not_inserted-requires c = λ q. elim c.in-Err.ensures.refused [
  | inl a ↦ cc
  | inr b ↦ no_bad_place c.args.tree.now c.find.ensures.kept c.args.parent.now c.in-Some.at (sym c.find.ensures.node ∙ c.in-Some.is) c.args.item.id (b ∙ ap Some q)
]

pub returns-in-Ok-clause-refused : goal.returns-in-Ok-clause-refused
returns-in-Ok-clause-refused c = add_fault_is c.args.tree.now c.find.ensures.kept c.args.parent.now c.in-Some.at (sym c.find.ensures.node ∙ c.in-Some.is) c.args.item.id ∙ ap (option_map edit_of_tree) c.in-Ok.ensures.refused

pub returns-in-Ok-clause-nodes : goal.returns-in-Ok-clause-nodes
returns-in-Ok-clause-nodes c = λ y.
    let g = there c.args.tree.now c.find.ensures.kept c.args.parent.now c.in-Some.at (sym c.find.ensures.node ∙ c.in-Some.is) in
    grown_nodes c.args.tree.now c.insert-inserted.new.self c.find.ensures.kept c.find-kept.ensures.kept c.in-Ok.field-0 c.args.item c.args.time c.in-Some.at g.0 g.1
    (is_none (entry c.in-Ok.field-0 c.args.tree.now) c.in-Ok.ensures.fresh) (fresh_id c.args.tree.now c.in-Some.at None c.args.item.id c.in-Ok.ensures.refused) c.in-Ok.ensures.entries c.in-Ok.ensures.kids y
    ∙ ap (λ z. cond (bytes_eq y c.args.item.id) (Some (new_node c.args.time z c.args.item)) (option_map (λ n. cond (bytes_eq n.id z) (with_child c.args.item.id n) n) (node y (tree c.args.tree.now)))) g.2

pub returns-in-Err-clause-refused : goal.returns-in-Err-clause-refused
returns-in-Err-clause-refused c = elim c.in-Err.ensures.refused [
  | inl a ↦ inl (c.not_inserted.ensures ∙ ap edit_of_tree a)
  | inr b ↦ inr (add_fault_is c.args.tree.now c.find.ensures.kept c.args.parent.now c.in-Some.at (sym c.find.ensures.node ∙ c.in-Some.is) c.args.item.id ∙ (ap (option_map edit_of_tree) b ∙ ap Some (sym c.not_inserted.ensures)))
]
