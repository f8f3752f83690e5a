use Rattle.std.proofs.Common.{true, false, sym, ap, ◌∙◌, is_some}
use Rattle.ss_device.proofs.Refused.{change_is, no_item}
use Rattle.ss_device.proofs.grafts.change_fault.Goals as goal
use Rattle.ss_text.proofs.Basics.{is_none}

pub returns-then-is_none : goal.returns-then-is_none
returns-then-is_none c = sym (no_item c.args.tree.now c.args.id.now (sym c.find.ensures.node ∙ is_none c.find.result c.if-is_none.ensures))

pub returns-then-is_fixed : goal.returns-then-is_fixed
returns-then-is_fixed c = sym (change_is c.args.tree.now c.args.id.now true (ap is_some (sym c.find.ensures.node) ∙ c.if-is_none.ensures) (sym c.is_fixed.ensures ∙ c.if-is_fixed.true))

pub returns : goal.returns
returns c = sym (change_is c.args.tree.now c.args.id.now false (ap is_some (sym c.find.ensures.node) ∙ c.if-is_none.ensures) (sym c.is_fixed.ensures ∙ c.if-is_fixed.false))
