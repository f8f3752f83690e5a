use Rattle.std.proofs.Common.{◌≡◌, ◌==◌, ℕ, List, Some, None, cond, sym, ap, ap₂, ◌∙◌, arith, option_map, bytes_eq}
use Rattle.ss_list.proofs.Calls.{whole_slice}
use Rattle.ss_tree.specs.declared.entries.Entry.{Entry}
use Rattle.ss_tree.specs.Entries.{above, entry, remove_fault}
use Rattle.ss_tree.specs.declared.cells.Cell.{Cell}
use Rattle.ss_tree.specs.Cells.{cell_at, next_of, prev_of, seat_at, listing, Joins, Frees, IsLinkedTree}
use Rattle.ss_tree.proofs.Changed.{holds_linked, remove_loose, has_parent, leave_places, removed, removed_entries}
use Rattle.ss_tree.proofs.Changed.{removed_kids, removed_ids}
use Rattle.ss_tree.proofs.Hanging.{removed_hangs}
use Rattle.ss_tree.proofs.trees.Tree.remove.Goals as goal

pub unreachable-requires : goal.unreachable-requires
unreachable-requires c =
    let cells = c.self.inside.cells.items in
    let k = c.args.node in
    let linked : IsLinkedTree cells = c.self.invariant.0 in
    let free : remove_fault (listing cells) k ≡ None = rw c.self.view_is (sym c.remove_fault.ensures ∙ c.in_default.is) in
    has_parent (listing cells) linked.kept.is_tree k (rw c.self.view_is c.requires) (remove_loose (listing cells) k free) (rw c.self.view_is (sym c.parent.ensures.node ∙ c.in_default-parent.is))

pub detach-requires-clause-left : goal.detach-requires-clause-left
detach-requires-clause-left c =
    let cells = c.self.inside.cells.items in
    let k = c.args.node in
    let linked : IsLinkedTree cells = c.self.invariant.0 in
    let free : remove_fault (listing cells) k ≡ None = rw c.self.view_is (sym c.remove_fault.ensures ∙ c.in_default.is) in
    let p = c.in-Some-parent.above in
    let up : above (listing cells) k ≡ Some p = rw c.self.view_is (sym c.parent.ensures.node ∙ c.in-Some-parent.is) in
    rw (c.as_mut_slice-cells.ensures.value, c.number.ensures, c.number-place.ensures) (leave_places cells k p linked up).0

pub detach-requires-clause-right : goal.detach-requires-clause-right
detach-requires-clause-right c =
    let cells = c.self.inside.cells.items in
    let k = c.args.node in
    let linked : IsLinkedTree cells = c.self.invariant.0 in
    let free : remove_fault (listing cells) k ≡ None = rw c.self.view_is (sym c.remove_fault.ensures ∙ c.in_default.is) in
    let p = c.in-Some-parent.above in
    let up : above (listing cells) k ≡ Some p = rw c.self.view_is (sym c.parent.ensures.node ∙ c.in-Some-parent.is) in
    rw (c.as_mut_slice-cells.ensures.value, c.number.ensures, c.number-place.ensures) (leave_places cells k p linked up).1

pub invariant_of-self : goal.invariant_of-self
invariant_of-self c =
    let cells = c.self.inside.cells.items in
    let k = c.args.node in
    let linked : IsLinkedTree cells = c.self.invariant.0 in
    let free : remove_fault (listing cells) k ≡ None = rw c.self.view_is (sym c.remove_fault.ensures ∙ c.in_default.is) in
    let p = c.in-Some-parent.above in
    let up : above (listing cells) k ≡ Some p = rw c.self.view_is (sym c.parent.ensures.node ∙ c.in-Some-parent.is) in
    let middle : List Cell = c.detach.new.cells in
    let joins : Joins cells middle p (prev_of cells p k) (next_of cells p k) = rw (c.as_mut_slice-cells.ensures.value, c.number.ensures, c.number-place.ensures) at c.detach.ensures in
    let new : List Cell = c.vacate-item.new.cells in
    let vacant = c.self.inside.vacant in
    let same : Frees middle new k vacant = rw c.number-place.ensures at c.vacate-item.ensures.links in
    let seats : (j : ℕ) → seat_at new j ≡ cond (k == j) None (seat_at middle j) = rw c.number-place.ensures at c.vacate-item.ensures.seats in
    let whole = whole_slice c.self.inside.cells.len cells new (omega arith) (same.long ∙ joins.long) in
    let item : (cell_at middle k).item ≡ Some c.vacate-item.result = rw c.number-place.ensures at c.vacate-item.ensures.item in
    let d : Entry = record { node = k; parent = (cell_at middle k).parent; item = c.vacate-item.result; time = (cell_at middle k).time } in
    let at : entry k (listing cells) ≡ Some d = linked.lies.seats k ∙ (sym (joins.seats k) ∙ ap (option_map (λ i. record { node = k; parent = (cell_at middle k).parent; item = i; time = (cell_at middle k).time })) item) in
    rw whole (
      holds_linked (removed cells k p linked up middle joins new vacant free same seats),
      λ x.
          c.leave.ensures x ∙ (ap₂ (λ y o. cond (bytes_eq y x) None o) c.id.ensures.id (c.self.invariant.1 x) ∙ sym (removed_ids cells k p linked up middle joins new vacant free same seats d at x)),
      rw c.number-place.ensures (removed_hangs cells k p linked up middle joins vacant c.self.invariant.2 new same seats),
    )

pub returns-clause-entries : goal.returns-clause-entries
returns-clause-entries c =
    let cells = c.self.inside.cells.items in
    let k = c.args.node in
    let linked : IsLinkedTree cells = c.self.invariant.0 in
    let free : remove_fault (listing cells) k ≡ None = rw c.self.view_is (sym c.remove_fault.ensures ∙ c.in_default.is) in
    let p = c.in-Some-parent.above in
    let up : above (listing cells) k ≡ Some p = rw c.self.view_is (sym c.parent.ensures.node ∙ c.in-Some-parent.is) in
    let middle : List Cell = c.detach.new.cells in
    let joins : Joins cells middle p (prev_of cells p k) (next_of cells p k) = rw (c.as_mut_slice-cells.ensures.value, c.number.ensures, c.number-place.ensures) at c.detach.ensures in
    let new : List Cell = c.vacate-item.new.cells in
    let vacant = c.self.inside.vacant in
    let same : Frees middle new k vacant = rw c.number-place.ensures at c.vacate-item.ensures.links in
    let seats : (j : ℕ) → seat_at new j ≡ cond (k == j) None (seat_at middle j) = rw c.number-place.ensures at c.vacate-item.ensures.seats in
    let whole = whole_slice c.self.inside.cells.len cells new (omega arith) (same.long ∙ joins.long) in
    rw (whole, ← c.self.view_is) (removed_entries cells k p linked up middle joins new vacant free same seats)

pub returns-clause-kids : goal.returns-clause-kids
returns-clause-kids c =
    let cells = c.self.inside.cells.items in
    let k = c.args.node in
    let linked : IsLinkedTree cells = c.self.invariant.0 in
    let free : remove_fault (listing cells) k ≡ None = rw c.self.view_is (sym c.remove_fault.ensures ∙ c.in_default.is) in
    let p = c.in-Some-parent.above in
    let up : above (listing cells) k ≡ Some p = rw c.self.view_is (sym c.parent.ensures.node ∙ c.in-Some-parent.is) in
    let middle : List Cell = c.detach.new.cells in
    let joins : Joins cells middle p (prev_of cells p k) (next_of cells p k) = rw (c.as_mut_slice-cells.ensures.value, c.number.ensures, c.number-place.ensures) at c.detach.ensures in
    let new : List Cell = c.vacate-item.new.cells in
    let vacant = c.self.inside.vacant in
    let same : Frees middle new k vacant = rw c.number-place.ensures at c.vacate-item.ensures.links in
    let seats : (j : ℕ) → seat_at new j ≡ cond (k == j) None (seat_at middle j) = rw c.number-place.ensures at c.vacate-item.ensures.seats in
    let whole = whole_slice c.self.inside.cells.len cells new (omega arith) (same.long ∙ joins.long) in
    rw (whole, ← c.self.view_is) (removed_kids cells k p linked up middle joins new vacant free same seats)
