use Rattle.std.proofs.Common.{◌≡◌, ◌==◌, ◌<◌, ℕ, List, Some, None, length, cond, sym, ◌∙◌, arith, option_map}
use Rattle.ss_list.proofs.Calls.{whole_slice}
use Rattle.ss_tree.specs.declared.entries.Entry.{Entry}
use Rattle.ss_tree.specs.Entries.{above, entry, move_fault, under}
use Rattle.ss_tree.specs.declared.cells.Cell.{Cell}
use Rattle.ss_tree.specs.Cells.{next_of, prev_of, link_of, seat_at, listing, Joins, Attaches, SameLinks, IsLinkedTree}
use Rattle.ss_tree.proofs.Changed.{holds_linked, move_parent, move_loose, has_parent, leave_places, moved}
use Rattle.ss_tree.proofs.Changed.{moved_entries, moved_kids, moved_ids, move_places}
use Rattle.ss_tree.proofs.Hanging.{moved_hangs}
use Rattle.ss_tree.proofs.trees.Tree.move_to.Goals as goal
use Rattle.ss_text.proofs.Basics.{is_one}

pub unreachable-requires : goal.unreachable-requires
unreachable-requires c =
    let cells = c.self.inside.cells.items in
    let k = c.args.node in
    let q = c.args.parent in
    let b = c.args.before in
    let linked : IsLinkedTree cells = c.self.invariant.0 in
    let free : move_fault (listing cells) k q b ≡ None = rw c.self.view_is (sym c.move_fault.ensures ∙ c.in_default.is) in
    has_parent (listing cells) linked.kept.is_tree k (rw c.self.view_is c.requires) (move_loose (listing cells) k q b free) (rw c.self.view_is (sym c.parent.ensures.node ∙ c.in_default-parent.is))

pub detach-requires-clause-left : goal.detach-requires-clause-left
detach-requires-clause-left c =
    let cells = c.self.inside.cells.items in
    let k = c.args.node in
    let q = c.args.parent in
    let b = c.args.before in
    let linked : IsLinkedTree cells = c.self.invariant.0 in
    let free : move_fault (listing cells) k q b ≡ None = rw c.self.view_is (sym c.move_fault.ensures ∙ c.in_default.is) in
    let p = c.in-Some-parent.above in
    let up : above (listing cells) k ≡ Some p = rw c.self.view_is (sym c.parent.ensures.node ∙ c.in-Some-parent.is) in
    rw (c.as_mut_slice-cells.ensures.value, c.number.ensures, c.number-2.ensures) (leave_places cells k p linked up).0

pub detach-requires-clause-right : goal.detach-requires-clause-right
detach-requires-clause-right c =
    let cells = c.self.inside.cells.items in
    let k = c.args.node in
    let q = c.args.parent in
    let b = c.args.before in
    let linked : IsLinkedTree cells = c.self.invariant.0 in
    let free : move_fault (listing cells) k q b ≡ None = rw c.self.view_is (sym c.move_fault.ensures ∙ c.in_default.is) in
    let p = c.in-Some-parent.above in
    let up : above (listing cells) k ≡ Some p = rw c.self.view_is (sym c.parent.ensures.node ∙ c.in-Some-parent.is) in
    rw (c.as_mut_slice-cells.ensures.value, c.number.ensures, c.number-2.ensures) (leave_places cells k p linked up).1

pub attach-requires-clause-parent : goal.attach-requires-clause-parent
attach-requires-clause-parent c =
    let cells = c.self.inside.cells.items in
    let k = c.args.node in
    let q = c.args.parent in
    let b = c.args.before in
    let linked : IsLinkedTree cells = c.self.invariant.0 in
    let free : move_fault (listing cells) k q b ≡ None = rw c.self.view_is (sym c.move_fault.ensures ∙ c.in_default.is) in
    let p = c.in-Some-parent.above in
    let up : above (listing cells) k ≡ Some p = rw c.self.view_is (sym c.parent.ensures.node ∙ c.in-Some-parent.is) in
    let middle : List Cell = c.detach.new.cells in
    let joins : Joins cells middle p (prev_of cells p k) (next_of cells p k) = rw (c.as_mut_slice-cells.ensures.value, c.number.ensures, c.number-2.ensures) at c.detach.ensures in
    let turned : List Cell = c.set_parent.new.cells in
    let same : SameLinks middle turned = c.set_parent.ensures.links in
    let seats : (j : ℕ) → seat_at turned j ≡ cond (j == k) (option_map (under q) (seat_at middle j)) (seat_at middle j) = rw c.number-3.ensures at c.set_parent.ensures.seats in
    let live : (d : Entry) × (entry k (listing cells) ≡ Some d) = is_one (entry k (listing cells)) (rw c.self.view_is c.requires) in
    let low : q < length cells = linked.kept.below q (move_parent (listing cells) k q b free) in
    rw c.number-4.ensures (omega (arith, same.long, joins.long))

pub attach-requires-clause-right : goal.attach-requires-clause-right
attach-requires-clause-right c =
    let cells = c.self.inside.cells.items in
    let k = c.args.node in
    let q = c.args.parent in
    let b = c.args.before in
    let linked : IsLinkedTree cells = c.self.invariant.0 in
    let free : move_fault (listing cells) k q b ≡ None = rw c.self.view_is (sym c.move_fault.ensures ∙ c.in_default.is) in
    let p = c.in-Some-parent.above in
    let up : above (listing cells) k ≡ Some p = rw c.self.view_is (sym c.parent.ensures.node ∙ c.in-Some-parent.is) in
    let middle : List Cell = c.detach.new.cells in
    let joins : Joins cells middle p (prev_of cells p k) (next_of cells p k) = rw (c.as_mut_slice-cells.ensures.value, c.number.ensures, c.number-2.ensures) at c.detach.ensures in
    let turned : List Cell = c.set_parent.new.cells in
    let same : SameLinks middle turned = c.set_parent.ensures.links in
    let seats : (j : ℕ) → seat_at turned j ≡ cond (j == k) (option_map (under q) (seat_at middle j)) (seat_at middle j) = rw c.number-3.ensures at c.set_parent.ensures.seats in
    let live : (d : Entry) × (entry k (listing cells) ≡ Some d) = is_one (entry k (listing cells)) (rw c.self.view_is c.requires) in
    rw c.link_of.ensures (move_places cells k p linked up middle joins q b turned live.0 live.1 free same seats).0

pub attach-requires-clause-left : goal.attach-requires-clause-left
attach-requires-clause-left c =
    let cells = c.self.inside.cells.items in
    let k = c.args.node in
    let q = c.args.parent in
    let b = c.args.before in
    let linked : IsLinkedTree cells = c.self.invariant.0 in
    let free : move_fault (listing cells) k q b ≡ None = rw c.self.view_is (sym c.move_fault.ensures ∙ c.in_default.is) in
    let p = c.in-Some-parent.above in
    let up : above (listing cells) k ≡ Some p = rw c.self.view_is (sym c.parent.ensures.node ∙ c.in-Some-parent.is) in
    let middle : List Cell = c.detach.new.cells in
    let joins : Joins cells middle p (prev_of cells p k) (next_of cells p k) = rw (c.as_mut_slice-cells.ensures.value, c.number.ensures, c.number-2.ensures) at c.detach.ensures in
    let turned : List Cell = c.set_parent.new.cells in
    let same : SameLinks middle turned = c.set_parent.ensures.links in
    let seats : (j : ℕ) → seat_at turned j ≡ cond (j == k) (option_map (under q) (seat_at middle j)) (seat_at middle j) = rw c.number-3.ensures at c.set_parent.ensures.seats in
    let live : (d : Entry) × (entry k (listing cells) ≡ Some d) = is_one (entry k (listing cells)) (rw c.self.view_is c.requires) in
    rw (c.number-4.ensures, c.link_of.ensures) (move_places cells k p linked up middle joins q b turned live.0 live.1 free same seats).1

pub invariant_of-self : goal.invariant_of-self
invariant_of-self c =
    let cells = c.self.inside.cells.items in
    let k = c.args.node in
    let q = c.args.parent in
    let b = c.args.before in
    let linked : IsLinkedTree cells = c.self.invariant.0 in
    let free : move_fault (listing cells) k q b ≡ None = rw c.self.view_is (sym c.move_fault.ensures ∙ c.in_default.is) in
    let p = c.in-Some-parent.above in
    let up : above (listing cells) k ≡ Some p = rw c.self.view_is (sym c.parent.ensures.node ∙ c.in-Some-parent.is) in
    let middle : List Cell = c.detach.new.cells in
    let joins : Joins cells middle p (prev_of cells p k) (next_of cells p k) = rw (c.as_mut_slice-cells.ensures.value, c.number.ensures, c.number-2.ensures) at c.detach.ensures in
    let turned : List Cell = c.set_parent.new.cells in
    let same : SameLinks middle turned = c.set_parent.ensures.links in
    let seats : (j : ℕ) → seat_at turned j ≡ cond (j == k) (option_map (under q) (seat_at middle j)) (seat_at middle j) = rw c.number-3.ensures at c.set_parent.ensures.seats in
    let live : (d : Entry) × (entry k (listing cells) ≡ Some d) = is_one (entry k (listing cells)) (rw c.self.view_is c.requires) in
    let new : List Cell = c.attach.new.cells in
    let attaches : Attaches turned new q k (link_of b) = rw (c.number-4.ensures, c.number-5.ensures, c.link_of.ensures) at c.attach.ensures in
    let whole = whole_slice c.self.inside.cells.len cells new (omega arith) (attaches.before_right.long ∙ (attaches.after_left.long ∙ (same.long ∙ joins.long))) in
    rw whole (holds_linked (moved cells k p linked up middle joins q b turned live.0 live.1 free same seats new attaches), λ x. c.self.invariant.1 x ∙ sym (moved_ids cells k p linked up middle joins q b turned live.0 live.1 free same seats new attaches x), moved_hangs cells k p linked up middle joins c.self.inside.vacant c.self.invariant.2 q b turned live.0 live.1 free same seats new attaches)

pub returns-clause-entries : goal.returns-clause-entries
returns-clause-entries c =
    let cells = c.self.inside.cells.items in
    let k = c.args.node in
    let q = c.args.parent in
    let b = c.args.before in
    let linked : IsLinkedTree cells = c.self.invariant.0 in
    let free : move_fault (listing cells) k q b ≡ None = rw c.self.view_is (sym c.move_fault.ensures ∙ c.in_default.is) in
    let p = c.in-Some-parent.above in
    let up : above (listing cells) k ≡ Some p = rw c.self.view_is (sym c.parent.ensures.node ∙ c.in-Some-parent.is) in
    let middle : List Cell = c.detach.new.cells in
    let joins : Joins cells middle p (prev_of cells p k) (next_of cells p k) = rw (c.as_mut_slice-cells.ensures.value, c.number.ensures, c.number-2.ensures) at c.detach.ensures in
    let turned : List Cell = c.set_parent.new.cells in
    let same : SameLinks middle turned = c.set_parent.ensures.links in
    let seats : (j : ℕ) → seat_at turned j ≡ cond (j == k) (option_map (under q) (seat_at middle j)) (seat_at middle j) = rw c.number-3.ensures at c.set_parent.ensures.seats in
    let live : (d : Entry) × (entry k (listing cells) ≡ Some d) = is_one (entry k (listing cells)) (rw c.self.view_is c.requires) in
    let new : List Cell = c.attach.new.cells in
    let attaches : Attaches turned new q k (link_of b) = rw (c.number-4.ensures, c.number-5.ensures, c.link_of.ensures) at c.attach.ensures in
    let whole = whole_slice c.self.inside.cells.len cells new (omega arith) (attaches.before_right.long ∙ (attaches.after_left.long ∙ (same.long ∙ joins.long))) in
    rw (whole, ← c.self.view_is) (moved_entries cells k p linked up middle joins q b turned live.0 live.1 free same seats new attaches)

pub returns-clause-kids : goal.returns-clause-kids
returns-clause-kids c =
    let cells = c.self.inside.cells.items in
    let k = c.args.node in
    let q = c.args.parent in
    let b = c.args.before in
    let linked : IsLinkedTree cells = c.self.invariant.0 in
    let free : move_fault (listing cells) k q b ≡ None = rw c.self.view_is (sym c.move_fault.ensures ∙ c.in_default.is) in
    let p = c.in-Some-parent.above in
    let up : above (listing cells) k ≡ Some p = rw c.self.view_is (sym c.parent.ensures.node ∙ c.in-Some-parent.is) in
    let middle : List Cell = c.detach.new.cells in
    let joins : Joins cells middle p (prev_of cells p k) (next_of cells p k) = rw (c.as_mut_slice-cells.ensures.value, c.number.ensures, c.number-2.ensures) at c.detach.ensures in
    let turned : List Cell = c.set_parent.new.cells in
    let same : SameLinks middle turned = c.set_parent.ensures.links in
    let seats : (j : ℕ) → seat_at turned j ≡ cond (j == k) (option_map (under q) (seat_at middle j)) (seat_at middle j) = rw c.number-3.ensures at c.set_parent.ensures.seats in
    let live : (d : Entry) × (entry k (listing cells) ≡ Some d) = is_one (entry k (listing cells)) (rw c.self.view_is c.requires) in
    let new : List Cell = c.attach.new.cells in
    let attaches : Attaches turned new q k (link_of b) = rw (c.number-4.ensures, c.number-5.ensures, c.link_of.ensures) at c.attach.ensures in
    let whole = whole_slice c.self.inside.cells.len cells new (omega arith) (attaches.before_right.long ∙ (attaches.after_left.long ∙ (same.long ∙ joins.long))) in
    rw (whole, ← c.self.view_is) (moved_kids cells k p linked up middle joins q b turned live.0 live.1 free same seats new attaches)
