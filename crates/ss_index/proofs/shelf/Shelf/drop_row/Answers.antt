use Rattle.std.proofs.Common.{◌≤◌, ◌-◌, List, [], not, length, sym, ap, subst, arith, append-nil, ◌∙◌}
use Rattle.ss_text.specs.Texts.{IsReordering}
use Rattle.ss_bso.specs.declared.rows.Row.{Row}
use Rattle.ss_bso.specs.Limits.{row_bytes}
use Rattle.ss_bso.specs.Changes.{rows_but}
use Rattle.ss_index.specs.Held.{has_id, rows_but_id}
use Rattle.ss_index.specs.Shelved.{rows_in}
use Rattle.ss_bso.proofs.Lists.{sum_by-filter_le}
use Rattle.ss_index.proofs.Shelves.{edit_rows, edit_shelf, edited_none, shelf_len_within, shelf_total_within}
use Rattle.ss_index.proofs.Changing.{room-kept}
use Rattle.ss_index.proofs.shelf.Shelf.drop_row.Goals as goal
use Rattle.ss_text.proofs.Basics.{length-filter_le}

pub overflow_sub-len : goal.overflow_sub-len
overflow_sub-len c =
    let fewer : length c.take.new.self.rows ≤ length c.in-Some.drawer.now.rows =
    omega (arith, ap (λ (l : List Row). length l) c.take.ensures.rows, length-filter_le (λ row. not (has_id c.args.id row)) c.in-Some.drawer.now.rows) in
    omega (arith, fewer, c.len-len.ensures, c.len.ensures)

pub overflow_sub-self : goal.overflow_sub-self
overflow_sub-self c =
    let within = shelf_len_within c.self.invariant c.args.collection c.in-Some.drawer.now (sym c.in-Some.ensures.value) in
    omega (arith, within, c.len-len.ensures, c.from.ensures)

pub overflow_sub-self-in-Some : goal.overflow_sub-self-in-Some
overflow_sub-self-in-Some c =
    let less : row_bytes c.take.new.self.rows ≤ row_bytes c.in-Some.drawer.now.rows =
    omega (arith, ap row_bytes c.take.ensures.rows, sum_by-filter_le (λ row. not (has_id c.args.id row)) (λ (row : Row). length row.payload) c.in-Some.drawer.now.rows) in
    omega (arith, less, c.bytes-bytes.ensures, c.bytes.ensures)

pub overflow_sub-self-in-Some-2 : goal.overflow_sub-self-in-Some-2
overflow_sub-self-in-Some-2 c =
    let within_bytes = shelf_total_within c.self.invariant c.args.collection c.in-Some.drawer.now (sym c.in-Some.ensures.value) in
    omega (arith, within_bytes, c.bytes-bytes.ensures)

pub invariant_of-self : goal.invariant_of-self
invariant_of-self c =
    let held = c.in-Some.drawer.now in
    let now = c.take.new.self in
    let w = c.get_mut.follows.holds now in
    let fewer : length c.take.new.self.rows ≤ length c.in-Some.drawer.now.rows =
    omega (arith, ap (λ (l : List Row). length l) c.take.ensures.rows, length-filter_le (λ row. not (has_id c.args.id row)) c.in-Some.drawer.now.rows) in
    let less : row_bytes c.take.new.self.rows ≤ row_bytes c.in-Some.drawer.now.rows =
    omega (arith, ap row_bytes c.take.ensures.rows, sum_by-filter_le (λ row. not (has_id c.args.id row)) (λ (row : Row). length row.payload) c.in-Some.drawer.now.rows) in
    let within = shelf_len_within c.self.invariant c.args.collection c.in-Some.drawer.now (sym c.in-Some.ensures.value) in
    let within_bytes = shelf_total_within c.self.invariant c.args.collection c.in-Some.drawer.now (sym c.in-Some.ensures.value) in
    edit_shelf c.self.invariant c.args.collection c.args.id held now [] (c.get_mut.follows.lender now).entries (sym c.in-Some.ensures.value) w.0 (c.take.ensures.rows ∙ sym (append-nil (rows_but_id c.args.id held.rows)))
    (c.self.inside.len - c.from.result) (c.self.inside.total - (c.bytes-bytes.result - c.bytes.result)) c.self.inside.ends w.1 tt
    (omega (arith, fewer, within, c.len-len.ensures, c.len.ensures, c.from.ensures)) (omega (arith, less, within_bytes, c.bytes-bytes.ensures, c.bytes.ensures)) (omega arith) tt tt

pub returns-in-Some-clause-rows : goal.returns-in-Some-clause-rows
returns-in-Some-clause-rows c =
    let held = c.in-Some.drawer.now in
    let now = c.take.new.self in
    let w = c.get_mut.follows.holds now in
    rw (← c.self.view_is) (subst (λ l. IsReordering (rows_in (c.get_mut.follows.lender now).entries) l) (append-nil (rows_but c.args.collection c.args.id (rows_in c.self.inside.drawers.entries)))
    (edit_rows c.self.invariant c.args.collection c.args.id held now [] (c.get_mut.follows.lender now).entries (sym c.in-Some.ensures.value) w.0 (c.take.ensures.rows ∙ sym (append-nil (rows_but_id c.args.id held.rows)))))

pub returns-in-Some-clause-room : goal.returns-in-Some-clause-room
returns-in-Some-clause-room c = λ name.
    let held = c.in-Some.drawer.now in
    let now = c.take.new.self in
    let w = c.get_mut.follows.holds now in
    rw (← c.self.view_is) (room-kept c.args.collection held now c.self.inside.drawers.entries (c.get_mut.follows.lender now).entries (sym c.in-Some.ensures.value) w.0 c.take.ensures.spare name)

pub returns-clause-rows : goal.returns-clause-rows
returns-clause-rows c =
    let e = c.get_mut.follows.holds-at-none in
    rw (e, ← c.self.view_is) (edited_none c.args.collection c.args.id c.self.inside.drawers.entries c.self.invariant.named (sym c.in-None.ensures.value))

pub returns-clause-room : goal.returns-clause-room
returns-clause-room c = λ name.
    let e = c.get_mut.follows.holds-at-none in
    rw (e, ← c.self.view_is) (omega arith)
