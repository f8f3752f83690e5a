use Rattle.std.proofs.Common.{◌≡◌, true, ◌≤◌, ◌+◌, ◌-◌, suc, List, length, sym, ap, subst, arith}
use Rattle.indexmap.specs.IndexMap.{set_value_at}
use Rattle.ss_bso.specs.declared.rows.Row.{Row}
use Rattle.ss_bso.specs.Account.{is_alive}
use Rattle.ss_bso.specs.Limits.{row_bytes}
use Rattle.ss_index.specs.Sweep.{AliveTo, HoldsTo, Outlives}
use Rattle.ss_bso.proofs.Lists.{Each, Each-passes, Each-imp, sum_by-filter_le}
use Rattle.ss_index.proofs.SweepingAll.{swept_rows, holds_more, holds_past, length_swept, room_swept, within_at}
use Rattle.ss_index.proofs.SweepingAll.{shelf_swept}
use Rattle.ss_index.proofs.Shelves.{weaker_ends}
use Rattle.ss_index.proofs.shelf.Shelf.sweep_drawer.Goals as goal
use Rattle.ss_text.proofs.Basics.{length-filter_le}

pub overflow_sub-len : goal.overflow_sub-len
overflow_sub-len c =
    omega (arith, ap (λ (l : List Row). length l) c.sweep-ends.ensures.rows, length-filter_le (is_alive c.args.moment) c.in-Some.drawer.now.rows, c.len-len.ensures, c.len.ensures)

pub overflow_sub-self : goal.overflow_sub-self
overflow_sub-self c =
    let within = within_at c.self.invariant c.in-Some.drawer.now c.args.i (sym c.in-Some.ensures.value) in
    omega (arith, within.0, c.len-len.ensures, c.from.ensures)

pub overflow_sub-self-in-Some : goal.overflow_sub-self-in-Some
overflow_sub-self-in-Some c =
    omega (arith, ap row_bytes c.sweep-ends.ensures.rows, sum_by-filter_le (is_alive c.args.moment) (λ (row : Row). length row.payload) c.in-Some.drawer.now.rows, c.bytes-bytes.ensures, c.bytes.ensures)

pub overflow_sub-self-in-Some-2 : goal.overflow_sub-self-in-Some-2
overflow_sub-self-in-Some-2 c =
    let within = within_at c.self.invariant c.in-Some.drawer.now c.args.i (sym c.in-Some.ensures.value) in
    omega (arith, within.1, c.bytes-bytes.ensures)

pub invariant_of-self : goal.invariant_of-self
invariant_of-self c =
    let within = within_at c.self.invariant c.in-Some.drawer.now c.args.i (sym c.in-Some.ensures.value) in
    let fewer : length c.sweep-ends.new.self.rows ≤ length c.in-Some.drawer.now.rows =
    omega (arith, ap (λ (l : List Row). length l) c.sweep-ends.ensures.rows, length-filter_le (is_alive c.args.moment) c.in-Some.drawer.now.rows) in
    let less : row_bytes c.sweep-ends.new.self.rows ≤ row_bytes c.in-Some.drawer.now.rows =
    omega (arith, ap row_bytes c.sweep-ends.ensures.rows, sum_by-filter_le (is_alive c.args.moment) (λ (row : Row). length row.payload) c.in-Some.drawer.now.rows) in
    shelf_swept c.self.invariant c.args.moment c.in-Some.drawer.now c.sweep-ends.new.self c.args.i (c.self.inside.len - c.from.result) (c.self.inside.total - (c.bytes-bytes.result - c.bytes.result)) c.sweep-ends.ensures.rows (sym c.in-Some.ensures.value)
    (omega (arith, fewer, within.0, c.len-len.ensures, c.len.ensures, c.from.ensures)) (omega (arith, less, within.1, c.bytes-bytes.ensures, c.bytes.ensures))

pub returns-in-Some-clause-rows : goal.returns-in-Some-clause-rows
returns-in-Some-clause-rows c =
    rw (← c.self.view_is) (swept_rows c.args.moment c.in-Some.drawer.now c.sweep-ends.new.self c.sweep-ends.ensures.rows c.self.inside.drawers.entries c.args.i (sym c.in-Some.ensures.value))

pub returns-in-Some-clause-alive : goal.returns-in-Some-clause-alive
returns-in-Some-clause-alive c = λ before.
    let next : suc c.args.i ≡ c.args.i + 1 = omega arith in
    subst (λ k. AliveTo c.args.moment k (set_value_at c.self.inside.drawers.entries c.args.i c.sweep-ends.new.self)) next
    (holds_more (λ (row : Row). is_alive c.args.moment row ≡ true) c.sweep-ends.new.self c.self.inside.drawers.entries c.args.i
    (subst (λ l. Each (λ (row : Row). is_alive c.args.moment row ≡ true) l) (sym c.sweep-ends.ensures.rows) (Each-passes (is_alive c.args.moment) c.in-Some.drawer.now.rows)) (rw (← c.self.view_is) at before))

pub returns-in-Some-clause-number : goal.returns-in-Some-clause-number
returns-in-Some-clause-number c = rw (← c.self.view_is) (length_swept c.sweep-ends.new.self c.self.inside.drawers.entries c.args.i)

pub returns-in-Some-clause-room : goal.returns-in-Some-clause-room
returns-in-Some-clause-room c = λ name.
    rw (← c.self.view_is) (room_swept c.in-Some.drawer.now c.sweep-ends.new.self c.sweep-ends.ensures.spare c.self.inside.drawers.entries c.args.i (sym c.in-Some.ensures.value) name)

pub returns-in-None-clause-alive : goal.returns-in-None-clause-alive
returns-in-None-clause-alive c = λ before.
    let next : suc c.args.i ≡ c.args.i + 1 = omega arith in
    subst (λ k. AliveTo c.args.moment k c.self.inside.drawers.entries) next
    (holds_past (λ (row : Row). is_alive c.args.moment row ≡ true) c.self.inside.drawers.entries c.args.i (sym c.in-None.ensures.value) (rw (← c.self.view_is) at before))

pub returns-in-Some-clause-ends : goal.returns-in-Some-clause-ends
returns-in-Some-clause-ends c = λ least le before.
    let next : suc c.args.i ≡ c.args.i + 1 = omega arith in
    subst (λ k. HoldsTo (Outlives least) k (set_value_at c.self.inside.drawers.entries c.args.i c.sweep-ends.new.self)) next
    (holds_more (Outlives least) c.sweep-ends.new.self c.self.inside.drawers.entries c.args.i
    (Each-imp (Outlives c.sweep-ends.result) (Outlives least) (λ row h. weaker_ends c.sweep-ends.result least row le h) c.sweep-ends.new.self.rows c.sweep-ends.ensures.ends) (rw (← c.self.view_is) at before))

pub returns-in-None-clause-ends : goal.returns-in-None-clause-ends
returns-in-None-clause-ends c = λ least le before.
    let next : suc c.args.i ≡ c.args.i + 1 = omega arith in
    subst (λ k. HoldsTo (Outlives least) k c.self.inside.drawers.entries) next (holds_past (Outlives least) c.self.inside.drawers.entries c.args.i (sym c.in-None.ensures.value) (rw (← c.self.view_is) at before))
