use Rattle.std.proofs.Common.{◌≤◌, ◌+◌, ◌-◌, [], ◌∷◌, not, length, refl, sym, ap, arith}
use Rattle.std.proofs.lemmas.List.Sums.{sum_by_push}
use Rattle.ss_bso.specs.declared.rows.Row.{Row}
use Rattle.ss_bso.specs.Limits.{row_bytes}
use Rattle.ss_index.specs.Held.{has_id, rows_but_id}
use Rattle.ss_bso.proofs.Lists.{sum_by-filter_le}
use Rattle.ss_index.proofs.Shelves.{rows_of-there, edit_rows, edit_shelf, shelf_len_within, shelf_total_within}
use Rattle.ss_index.proofs.Shelves.{shelf_bytes, weaker_ends}
use Rattle.ss_index.proofs.Changing.{room-edited, room_there, room_not_none}
use Rattle.ss_index.proofs.shelf.Shelf.put_row.Goals as goal

pub put-requires-clause-last : goal.put-requires-clause-last
put-requires-clause-last c =
    let rows = rows_of-there c.args.row.collection c.in-Some.drawer.now c.self.inside.drawers.entries c.self.invariant.named c.self.invariant.names (sym c.in-Some.ensures.value) in
    rw rows at (rw (← c.self.view_is) at c.requires.last)

pub put-requires-clause-bytes : goal.put-requires-clause-bytes
put-requires-clause-bytes c =
    let within_bytes = shelf_total_within c.self.invariant c.args.row.collection c.in-Some.drawer.now (sym c.in-Some.ensures.value) in
    let few = rw (← c.self.view_is) at c.requires.len in
    omega (arith, within_bytes, few, shelf_bytes c.self.invariant, c.self.invariant.len_counts)

pub overflow_sub-self : goal.overflow_sub-self
overflow_sub-self c =
    let within = shelf_len_within c.self.invariant c.args.row.collection c.in-Some.drawer.now (sym c.in-Some.ensures.value) in
    omega (arith, within, c.len.ensures, c.from-len.ensures)

pub overflow_sub-self-in-Some : goal.overflow_sub-self-in-Some
overflow_sub-self-in-Some c =
    let within_bytes = shelf_total_within c.self.invariant c.args.row.collection c.in-Some.drawer.now (sym c.in-Some.ensures.value) in
    omega (arith, within_bytes, c.bytes-bytes.ensures)

pub overflow_add-self-in-Some : goal.overflow_add-self-in-Some
overflow_add-self-in-Some c =
    let less : row_bytes c.put.new.self.rows ≤ row_bytes c.in-Some.drawer.now.rows + length c.args.row.payload =
    omega (
      arith,
      ap row_bytes c.put.ensures.rows,
      sum_by_push (λ (row : Row). length row.payload) (rows_but_id c.args.row.id c.in-Some.drawer.now.rows) c.args.row,
      sum_by-filter_le (λ row. not (has_id c.args.row.id row)) (λ (row : Row). length row.payload) c.in-Some.drawer.now.rows,
    ) in
    let within_bytes = shelf_total_within c.self.invariant c.args.row.collection c.in-Some.drawer.now (sym c.in-Some.ensures.value) in
    let few = rw (← c.self.view_is) at c.requires.len in
    omega (arith, less, within_bytes, few, shelf_bytes c.self.invariant, c.self.invariant.len_counts, c.put.ensures.size, c.bytes-bytes.ensures, c.bytes.ensures)

pub invariant_of-self : goal.invariant_of-self
invariant_of-self c =
    let held = c.in-Some.drawer.now in
    let now = c.put.new.self in
    let w = c.get_mut.follows.holds now in
    let within = shelf_len_within c.self.invariant c.args.row.collection c.in-Some.drawer.now (sym c.in-Some.ensures.value) in
    let within_bytes = shelf_total_within c.self.invariant c.args.row.collection c.in-Some.drawer.now (sym c.in-Some.ensures.value) in
    edit_shelf c.self.invariant c.args.row.collection c.args.row.id held now (c.args.row ∷ []) (c.get_mut.follows.lender now).entries (sym c.in-Some.ensures.value) w.0 c.put.ensures.rows
    (c.self.inside.len - c.from-len.result + c.from.result) (c.self.inside.total - c.bytes-bytes.result + c.bytes.result) c.min-self-inside.result w.1 (refl, tt)
    (omega (arith, within, c.len.ensures, c.from-len.ensures, c.from.ensures, c.len-in-Some.ensures)) (omega (arith, within_bytes, c.bytes-bytes.ensures, c.bytes.ensures)) (omega (arith, c.min-self-inside.ensures))
    (weaker_ends c.end_of-ends.result c.min-self-inside.result c.args.row (omega (arith, c.min-self-inside.ensures)) c.end_of-ends.ensures, tt) (c.put.ensures.size, tt)

pub put-requires-clause-spare : goal.put-requires-clause-spare
put-requires-clause-spare c = room_there c.args.row.collection c.self.inside.drawers.entries (rw (← c.self.view_is) at c.requires.room) c.in-Some.drawer.now (sym c.in-Some.ensures.value)

pub unreachable-requires : goal.unreachable-requires
unreachable-requires c = room_not_none c.args.row.collection c.self.inside.drawers.entries (rw (← c.self.view_is) at c.requires.room) (sym c.in-None.ensures.value)

pub returns-clause-rows : goal.returns-clause-rows
returns-clause-rows c =
    let held = c.in-Some.drawer.now in
    let now = c.put.new.self in
    let w = c.get_mut.follows.holds now in
    rw (← c.self.view_is)
    (edit_rows c.self.invariant c.args.row.collection c.args.row.id held now (c.args.row ∷ []) (c.get_mut.follows.lender now).entries (sym c.in-Some.ensures.value) w.0 c.put.ensures.rows)

pub returns-clause-room : goal.returns-clause-room
returns-clause-room c =
    let held = c.in-Some.drawer.now in
    let now = c.put.new.self in
    let w = c.get_mut.follows.holds now in
    rw (← c.self.view_is) (room-edited c.args.row.collection held now c.self.inside.drawers.entries (c.get_mut.follows.lender now).entries 1 (sym c.in-Some.ensures.value) w.0 c.put.ensures.spare)
