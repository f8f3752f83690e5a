use Rattle.std.proofs.Common.{◌≡◌, ◌+◌, ◌<◌, ◌≤◌, List, Some, None, length, cond, sym, ap, refl, ◌∙◌, arith, bytes_eq}
use Rattle.ss_list.proofs.Calls.{whole_slice}
use Rattle.ss_tree.specs.declared.entries.Entry.{Entry}
use Rattle.ss_tree.specs.Entries.{insert_fault}
use Rattle.ss_tree.specs.declared.cells.TheConstants.{END}
use Rattle.ss_tree.specs.declared.cells.Cell.{Cell}
use Rattle.ss_tree.specs.Cells.{cell_at, link_of, listing, seat_at, Attaches, Hangs, Seats, IsLinkedTree}
use Rattle.ss_tree.proofs.Changed.{holds_linked, insert_places, insert_under, inserted, inserted_entry, inserted_kids}
use Rattle.ss_tree.proofs.Changed.{inserted_ids}
use Rattle.ss_tree.proofs.Hanging.{inserted_hangs}
use Rattle.ss_tree.proofs.trees.Tree.insert.Goals as goal

pub attach-requires-clause-parent : goal.attach-requires-clause-parent
attach-requires-clause-parent c =
    let cells = c.self.inside.cells.items in
    let p = c.args.parent in
    let b = c.args.before in
    let k = c.place_for-place.result in
    let e : Entry = record { node = k; parent = Some p; item = c.args.item; time = c.args.time } in
    let linked : IsLinkedTree cells = c.self.invariant.0 in
    let free : insert_fault (listing cells) p b e.item.id ≡ None = rw (c.self.view_is, ← c.id.ensures.id) (sym c.insert_fault.ensures ∙ c.in_default.is) in
    let room : length cells + 1 < END = omega (arith, c.if-len.false) in
    let blank_there : seat_at cells k ≡ None = rw (c.deref.ensures.value, c.reserve.ensures.items) at c.place_for-place.ensures.blank in
    let seated : List Cell = c.occupy.new.cells.items in
    let seats : Seats cells seated e = rw (c.reserve.ensures.items, c.new-node.ensures) at c.occupy.ensures in
    rw (c.as_mut_slice-cells.ensures.value, c.number.ensures) (insert_under cells p b e linked free refl blank_there seated seats room)

pub attach-requires-clause-right : goal.attach-requires-clause-right
attach-requires-clause-right c =
    let cells = c.self.inside.cells.items in
    let p = c.args.parent in
    let b = c.args.before in
    let k = c.place_for-place.result in
    let e : Entry = record { node = k; parent = Some p; item = c.args.item; time = c.args.time } in
    let linked : IsLinkedTree cells = c.self.invariant.0 in
    let free : insert_fault (listing cells) p b e.item.id ≡ None = rw (c.self.view_is, ← c.id.ensures.id) (sym c.insert_fault.ensures ∙ c.in_default.is) in
    let room : length cells + 1 < END = omega (arith, c.if-len.false) in
    let blank_there : seat_at cells k ≡ None = rw (c.deref.ensures.value, c.reserve.ensures.items) at c.place_for-place.ensures.blank in
    let seated : List Cell = c.occupy.new.cells.items in
    let seats : Seats cells seated e = rw (c.reserve.ensures.items, c.new-node.ensures) at c.occupy.ensures in
    rw (c.as_mut_slice-cells.ensures.value, c.link_of.ensures) (insert_places cells p b e linked free refl blank_there seated seats room).0

pub attach-requires-clause-left : goal.attach-requires-clause-left
attach-requires-clause-left c =
    let cells = c.self.inside.cells.items in
    let p = c.args.parent in
    let b = c.args.before in
    let k = c.place_for-place.result in
    let e : Entry = record { node = k; parent = Some p; item = c.args.item; time = c.args.time } in
    let linked : IsLinkedTree cells = c.self.invariant.0 in
    let free : insert_fault (listing cells) p b e.item.id ≡ None = rw (c.self.view_is, ← c.id.ensures.id) (sym c.insert_fault.ensures ∙ c.in_default.is) in
    let room : length cells + 1 < END = omega (arith, c.if-len.false) in
    let blank_there : seat_at cells k ≡ None = rw (c.deref.ensures.value, c.reserve.ensures.items) at c.place_for-place.ensures.blank in
    let seated : List Cell = c.occupy.new.cells.items in
    let seats : Seats cells seated e = rw (c.reserve.ensures.items, c.new-node.ensures) at c.occupy.ensures in
    rw (c.as_mut_slice-cells.ensures.value, c.number.ensures, c.link_of.ensures) (insert_places cells p b e linked free refl blank_there seated seats room).1

pub invariant_of-self-2 : goal.invariant_of-self-2
invariant_of-self-2 c =
    let cells = c.self.inside.cells.items in
    let p = c.args.parent in
    let b = c.args.before in
    let k = c.place_for-place.result in
    let e : Entry = record { node = k; parent = Some p; item = c.args.item; time = c.args.time } in
    let linked : IsLinkedTree cells = c.self.invariant.0 in
    let free : insert_fault (listing cells) p b e.item.id ≡ None = rw (c.self.view_is, ← c.id.ensures.id) (sym c.insert_fault.ensures ∙ c.in_default.is) in
    let room : length cells + 1 < END = omega (arith, c.if-len.false) in
    let blank_there : seat_at cells k ≡ None = rw (c.deref.ensures.value, c.reserve.ensures.items) at c.place_for-place.ensures.blank in
    let seated : List Cell = c.occupy.new.cells.items in
    let seats : Seats cells seated e = rw (c.reserve.ensures.items, c.new-node.ensures) at c.occupy.ensures in
    let new : List Cell = c.attach.new.cells in
    let attaches : Attaches seated new p k (link_of b) = rw (c.as_mut_slice-cells.ensures.value, c.number.ensures, c.link_of.ensures) at c.attach.ensures in
    let whole = whole_slice c.occupy.new.cells.len seated new (omega arith) (attaches.before_right.long ∙ attaches.after_left.long) in
    let inside : k ≤ length cells = rw (c.deref.ensures.value, c.reserve.ensures.items) at c.place_for-place.ensures.inside in
    let again : c.self.inside.vacant < length cells → seat_at cells c.self.inside.vacant ≡ None → k ≡ c.self.inside.vacant = rw (c.deref.ensures.value, c.reserve.ensures.items) at c.place_for-place.ensures.again in
    let leads : c.next_at-self-inside.result ≡ (cell_at cells k).next = rw (c.deref-2.ensures.value, c.reserve.ensures.items) at c.next_at-self-inside.ensures in
    let hangs : Hangs new (cell_at cells k).next = inserted_hangs cells p b e linked free refl blank_there seated seats room new attaches c.self.inside.vacant c.self.invariant.2 inside again in
    let entered = rw (c.id-2.ensures.id, c.new-node.ensures) at c.in-Ok.ensures.entered in
    rw whole (holds_linked (inserted cells p b e linked free refl blank_there seated seats room new attaches), λ x. entered x ∙ (ap (λ o. cond (bytes_eq e.item.id x) (Some k) o) (c.self.invariant.1 x) ∙ sym (inserted_ids cells p b e linked free refl blank_there seated seats room new attaches x)), rw leads hangs)

pub returns-clause-entries : goal.returns-clause-entries
returns-clause-entries c =
    let cells = c.self.inside.cells.items in
    let p = c.args.parent in
    let b = c.args.before in
    let k = c.place_for-place.result in
    let e : Entry = record { node = k; parent = Some p; item = c.args.item; time = c.args.time } in
    let linked : IsLinkedTree cells = c.self.invariant.0 in
    let free : insert_fault (listing cells) p b e.item.id ≡ None = rw (c.self.view_is, ← c.id.ensures.id) (sym c.insert_fault.ensures ∙ c.in_default.is) in
    let room : length cells + 1 < END = omega (arith, c.if-len.false) in
    let blank_there : seat_at cells k ≡ None = rw (c.deref.ensures.value, c.reserve.ensures.items) at c.place_for-place.ensures.blank in
    let seated : List Cell = c.occupy.new.cells.items in
    let seats : Seats cells seated e = rw (c.reserve.ensures.items, c.new-node.ensures) at c.occupy.ensures in
    let new : List Cell = c.attach.new.cells in
    let attaches : Attaches seated new p k (link_of b) = rw (c.as_mut_slice-cells.ensures.value, c.number.ensures, c.link_of.ensures) at c.attach.ensures in
    let whole = whole_slice c.occupy.new.cells.len seated new (omega arith) (attaches.before_right.long ∙ attaches.after_left.long) in
    rw (whole, ← c.self.view_is, c.new-node.ensures) (inserted_entry cells p b e linked free refl blank_there seated seats room new attaches)

pub returns-clause-kids : goal.returns-clause-kids
returns-clause-kids c =
    let cells = c.self.inside.cells.items in
    let p = c.args.parent in
    let b = c.args.before in
    let k = c.place_for-place.result in
    let e : Entry = record { node = k; parent = Some p; item = c.args.item; time = c.args.time } in
    let linked : IsLinkedTree cells = c.self.invariant.0 in
    let free : insert_fault (listing cells) p b e.item.id ≡ None = rw (c.self.view_is, ← c.id.ensures.id) (sym c.insert_fault.ensures ∙ c.in_default.is) in
    let room : length cells + 1 < END = omega (arith, c.if-len.false) in
    let blank_there : seat_at cells k ≡ None = rw (c.deref.ensures.value, c.reserve.ensures.items) at c.place_for-place.ensures.blank in
    let seated : List Cell = c.occupy.new.cells.items in
    let seats : Seats cells seated e = rw (c.reserve.ensures.items, c.new-node.ensures) at c.occupy.ensures in
    let new : List Cell = c.attach.new.cells in
    let attaches : Attaches seated new p k (link_of b) = rw (c.as_mut_slice-cells.ensures.value, c.number.ensures, c.link_of.ensures) at c.attach.ensures in
    let whole = whole_slice c.occupy.new.cells.len seated new (omega arith) (attaches.before_right.long ∙ attaches.after_left.long) in
    rw (whole, ← c.self.view_is, c.new-node.ensures) (inserted_kids cells p b e linked free refl blank_there seated seats room new attaches)
