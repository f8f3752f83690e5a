use Rattle.std.proofs.Common.{◌≡◌, inr, true, sym, ap, ◌∙◌, is_some, bytes_eq}
use Rattle.ss_record.specs.Ids.{places}
use Rattle.ss_record.specs.Items.{is_fit}
use Rattle.ss_tree.specs.Trees.{node}
use Rattle.ss_tree.specs.Entries.{tree}
use Rattle.ss_device.specs.Edits.{moved_only, item_at_time}
use Rattle.ss_tree.specs.Trees.{item_of}
use Rattle.ss_device.proofs.Composed.{move_same, still, through}
use Rattle.ss_device.proofs.Known.{has_is_node}
use Rattle.ss_device.proofs.Refused.{change_loose, change_not_memory, fixed_inner, move_from_change, move_no_parent}
use Rattle.ss_device.proofs.Refused.{move_takes, node_there, takes_inner}
use Rattle.ss_device.proofs.tree_edits.move_in.Goals as goal
use Rattle.ss_tree.proofs.Looked.{in_tree}
use Rattle.ss_text.proofs.Basics.{is_none}

pub returns-then-is_none-clause-refused : goal.returns-then-is_none-clause-refused
returns-then-is_none-clause-refused c = inr (move_no_parent c.args.tree.now c.args.id.now c.args.parent.now (sym c.find.ensures.node ∙ is_none c.find.result c.if-is_none.ensures))

pub returns-in-Some-clause-refused : goal.returns-in-Some-clause-refused
returns-in-Some-clause-refused c = inr (move_from_change c.args.tree.now c.args.id.now c.args.parent.now c.in-Some.fault (in_tree c.args.tree.now c.args.parent.now ∙ (ap is_some (sym c.find.ensures.node) ∙ c.if-is_none.ensures)) (sym c.change_fault.ensures ∙ c.in-Some.is))

pub parent_of-requires-clause-there : goal.parent_of-requires-clause-there
parent_of-requires-clause-there c = sym (has_is_node c.args.id.now (tree c.args.tree.now)) ∙ (change_loose c.args.tree.now c.args.id.now (sym c.change_fault.ensures ∙ c.in_default.is)).0

pub parent_of-requires-clause-loose : goal.parent_of-requires-clause-loose
parent_of-requires-clause-loose c = (change_loose c.args.tree.now c.args.id.now (sym c.change_fault.ensures ∙ c.in_default.is)).1

pub content_of-requires : goal.content_of-requires
content_of-requires c = sym (has_is_node c.args.id.now (tree c.args.tree.now)) ∙ (change_loose c.args.tree.now c.args.id.now (sym c.change_fault.ensures ∙ c.in_default.is)).0

pub content_of-requires-2 : goal.content_of-requires-2
content_of-requires-2 c = ap (λ z. is_some (node z (tree c.args.tree.now))) c.in_ok-from.ensures.id ∙ c.in_ok-from.ensures.there

pub content_of-requires-3 : goal.content_of-requires-3
content_of-requires-3 c = node_there c.args.tree.now c.args.parent.now ∙ (ap is_some (sym c.find.ensures.node) ∙ c.if-is_none.ensures)

pub touch-requires-clause-there : goal.touch-requires-clause-there
touch-requires-clause-there c =
    still (moved_only c.args.id.now c.args.parent.now) (node c.args.id.now (tree c.args.tree.now)) (node c.args.id.now (tree c.relocate.new.tree)) (c.in_ok-relocate.ensures.nodes c.args.id.now)
    (sym (has_is_node c.args.id.now (tree c.args.tree.now)) ∙ (change_loose c.args.tree.now c.args.id.now (sym c.change_fault.ensures ∙ c.in_default.is)).0)

pub touch-requires-clause-inner : goal.touch-requires-clause-inner
touch-requires-clause-inner c = fixed_inner c.args.id.now (change_loose c.args.tree.now c.args.id.now (sym c.change_fault.ensures ∙ c.in_default.is)).1

pub touch-requires-clause-content : goal.touch-requires-clause-content
touch-requires-clause-content c =
    through (moved_only c.args.id.now c.args.parent.now) (node c.args.id.now (tree c.args.tree.now)) (node c.args.id.now (tree c.relocate.new.tree)) (λ n. n.content ≡ c.in_ok-own.own) (c.in_ok-relocate.ensures.nodes c.args.id.now) c.in_ok-own.ensures.content

pub touch-requires-clause-fit : goal.touch-requires-clause-fit
touch-requires-clause-fit c =
    through (moved_only c.args.id.now c.args.parent.now) (node c.args.id.now (tree c.args.tree.now)) (node c.args.id.now (tree c.relocate.new.tree)) (λ n. is_fit (item_of n) ≡ true) (c.in_ok-relocate.ensures.nodes c.args.id.now) c.in_ok-own.ensures.fit

pub touch-requires-2-clause-there : goal.touch-requires-2-clause-there
touch-requires-2-clause-there c =
    still (item_at_time c.args.id.now c.args.time) (node c.in_ok-from.from (tree c.relocate.new.tree)) (node c.in_ok-from.from (tree c.touch.new.tree)) (c.touch.ensures.nodes c.in_ok-from.from)
    (still (moved_only c.args.id.now c.args.parent.now) (node c.in_ok-from.from (tree c.args.tree.now)) (node c.in_ok-from.from (tree c.relocate.new.tree)) (c.in_ok-relocate.ensures.nodes c.in_ok-from.from)
    (ap (λ z. is_some (node z (tree c.args.tree.now))) c.in_ok-from.ensures.id ∙ c.in_ok-from.ensures.there))

pub touch-requires-2-clause-inner : goal.touch-requires-2-clause-inner
touch-requires-2-clause-inner c = ap (λ z. bytes_eq z places) c.in_ok-from.ensures.id ∙ c.in_ok-from.ensures.inner

pub touch-requires-2-clause-content : goal.touch-requires-2-clause-content
touch-requires-2-clause-content c =
    let x = c.in_ok-from.from in
    through (item_at_time c.args.id.now c.args.time) (node x (tree c.relocate.new.tree)) (node x (tree c.touch.new.tree)) (λ n. n.content ≡ c.in_ok-left.left) (c.touch.ensures.nodes x)
    (through (moved_only c.args.id.now c.args.parent.now) (node x (tree c.args.tree.now)) (node x (tree c.relocate.new.tree)) (λ n. n.content ≡ c.in_ok-left.left) (c.in_ok-relocate.ensures.nodes x) c.in_ok-left.ensures.content)

pub touch-requires-2-clause-fit : goal.touch-requires-2-clause-fit
touch-requires-2-clause-fit c =
    let x = c.in_ok-from.from in
    through (item_at_time c.args.id.now c.args.time) (node x (tree c.relocate.new.tree)) (node x (tree c.touch.new.tree)) (λ n. is_fit (item_of n) ≡ true) (c.touch.ensures.nodes x)
    (through (moved_only c.args.id.now c.args.parent.now) (node x (tree c.args.tree.now)) (node x (tree c.relocate.new.tree)) (λ n. is_fit (item_of n) ≡ true) (c.in_ok-relocate.ensures.nodes x) c.in_ok-left.ensures.fit)

pub touch-requires-3-clause-there : goal.touch-requires-3-clause-there
touch-requires-3-clause-there c =
    let x = c.args.parent.now in
    still (item_at_time c.in_ok-from.from c.args.time) (node x (tree c.touch.new.tree)) (node x (tree c.touch-2.new.tree)) (c.touch-2.ensures.nodes x)
    (still (item_at_time c.args.id.now c.args.time) (node x (tree c.relocate.new.tree)) (node x (tree c.touch.new.tree)) (c.touch.ensures.nodes x)
    (still (moved_only c.args.id.now c.args.parent.now) (node x (tree c.args.tree.now)) (node x (tree c.relocate.new.tree)) (c.in_ok-relocate.ensures.nodes x)
    (node_there c.args.tree.now c.args.parent.now ∙ (ap is_some (sym c.find.ensures.node) ∙ c.if-is_none.ensures))))

pub touch-requires-3-clause-inner : goal.touch-requires-3-clause-inner
touch-requires-3-clause-inner c = takes_inner (tree c.args.tree.now) c.args.parent.now (move_takes c.args.tree.now c.args.id.now c.args.parent.now c.in_ok-relocate.ensures.refused)

pub touch-requires-3-clause-content : goal.touch-requires-3-clause-content
touch-requires-3-clause-content c =
    let x = c.args.parent.now in
    through (item_at_time c.in_ok-from.from c.args.time) (node x (tree c.touch.new.tree)) (node x (tree c.touch-2.new.tree)) (λ n. n.content ≡ c.in_ok-taken.taken) (c.touch-2.ensures.nodes x)
    (through (item_at_time c.args.id.now c.args.time) (node x (tree c.relocate.new.tree)) (node x (tree c.touch.new.tree)) (λ n. n.content ≡ c.in_ok-taken.taken) (c.touch.ensures.nodes x)
    (through (moved_only c.args.id.now c.args.parent.now) (node x (tree c.args.tree.now)) (node x (tree c.relocate.new.tree)) (λ n. n.content ≡ c.in_ok-taken.taken) (c.in_ok-relocate.ensures.nodes x) c.in_ok-taken.ensures.content))

pub touch-requires-3-clause-fit : goal.touch-requires-3-clause-fit
touch-requires-3-clause-fit c =
    let x = c.args.parent.now in
    through (item_at_time c.in_ok-from.from c.args.time) (node x (tree c.touch.new.tree)) (node x (tree c.touch-2.new.tree)) (λ n. is_fit (item_of n) ≡ true) (c.touch-2.ensures.nodes x)
    (through (item_at_time c.args.id.now c.args.time) (node x (tree c.relocate.new.tree)) (node x (tree c.touch.new.tree)) (λ n. is_fit (item_of n) ≡ true) (c.touch.ensures.nodes x)
    (through (moved_only c.args.id.now c.args.parent.now) (node x (tree c.args.tree.now)) (node x (tree c.relocate.new.tree)) (λ n. is_fit (item_of n) ≡ true) (c.in_ok-relocate.ensures.nodes x) c.in_ok-taken.ensures.fit))

pub returns-clause-same : goal.returns-clause-same
returns-clause-same c =
    move_same (tree c.args.tree.now) (tree c.relocate.new.tree) (tree c.touch.new.tree) (tree c.touch-2.new.tree) (tree c.touch-3.new.tree) c.args.time c.args.id.now c.in_ok-from.from c.args.parent.now
    c.in_ok-from.ensures.id c.in_ok-relocate.ensures.nodes c.touch.ensures.nodes c.touch-2.ensures.nodes c.touch-3.ensures.nodes

pub returns-in-Some-clause-wanting : goal.returns-in-Some-clause-wanting
returns-in-Some-clause-wanting c = λ m. absurd (change_not_memory (tree c.args.tree.now) c.args.id.now c.in-Some.fault (sym c.change_fault.ensures ∙ c.in-Some.is) m)
