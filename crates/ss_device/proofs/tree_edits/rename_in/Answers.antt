use Rattle.std.proofs.Common.{sym, ap, ◌∙◌}
use Rattle.ss_record.specs.Items.{is_fit}
use Rattle.ss_tree.specs.Entries.{tree}
use Rattle.ss_device.proofs.Composed.{rename_same}
use Rattle.ss_device.proofs.Known.{has_is_node}
use Rattle.ss_device.proofs.Refused.{change_loose, change_not_memory, fixed_inner}
use Rattle.ss_device.proofs.tree_edits.rename_in.Goals as goal

pub titled_at-requires-clause-there : goal.titled_at-requires-clause-there
titled_at-requires-clause-there c = sym (has_is_node c.args.id.now (tree c.args.tree.now)) ∙ (change_loose c.args.tree.now c.args.id.now (sym c.change_fault.ensures ∙ c.in_default.is)).0

pub titled_at-requires-clause-inner : goal.titled_at-requires-clause-inner
titled_at-requires-clause-inner c = fixed_inner c.args.id.now (change_loose c.args.tree.now c.args.id.now (sym c.change_fault.ensures ∙ c.in_default.is)).1

pub revise-requires-clause-there : goal.revise-requires-clause-there
revise-requires-clause-there c = sym (has_is_node c.args.id.now (tree c.args.tree.now)) ∙ (change_loose c.args.tree.now c.args.id.now (sym c.change_fault.ensures ∙ c.in_default.is)).0

pub revise-requires-clause-inner : goal.revise-requires-clause-inner
revise-requires-clause-inner c = fixed_inner c.args.id.now (change_loose c.args.tree.now c.args.id.now (sym c.change_fault.ensures ∙ c.in_default.is)).1

pub revise-requires-clause-fit : goal.revise-requires-clause-fit
revise-requires-clause-fit c = λ n q. ap (λ x. is_fit (record { id = n.id; kind = n.kind; content = x })) (sym (c.in_ok-content.ensures.content n q)) ∙ c.in_ok-content.ensures.fit n q

pub returns-clause-same : goal.returns-clause-same
returns-clause-same c = rename_same (tree c.args.tree.now) (tree c.revise.new.tree) c.args.time c.args.id.now c.args.title.now c.in_ok-content.content c.in_ok-content.ensures.content c.revise.ensures.nodes

pub returns-in-Some-clause-wanting : goal.returns-in-Some-clause-wanting
returns-in-Some-clause-wanting c = λ m. absurd (change_not_memory (tree c.args.tree.now) c.args.id.now c.in-Some.fault (sym c.change_fault.ensures ∙ c.in-Some.is) m)
