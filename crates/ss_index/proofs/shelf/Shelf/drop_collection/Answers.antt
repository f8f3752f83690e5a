use Rattle.std.proofs.Common.{sym, ap, arith, ◌∙◌}
use Rattle.ss_index.specs.Shelved.{rows_in}
use Rattle.ss_index.proofs.Shelves.{shelf_len_within, shelf_total_within}
use Rattle.ss_index.proofs.Changing.{room-kept}
use Rattle.ss_index.proofs.Dropping.{without_in, without_none, cleared}
use Rattle.ss_index.proofs.shelf.Shelf.drop_collection.Goals as goal

pub returns-in-Some-clause-rows : goal.returns-in-Some-clause-rows
returns-in-Some-clause-rows c =
    let held = c.in-Some.drawer.now in
    let now = c.clear.new.self in
    let w = c.get_mut.follows.holds now in
    rw (← c.self.view_is) (ap (λ l. rows_in l) w.0 ∙ without_in c.args.name.now held now c.clear.ensures.rows c.self.inside.drawers.entries c.self.invariant.named c.self.invariant.names (sym c.in-Some.ensures.value))

pub returns-in-Some-clause-room : goal.returns-in-Some-clause-room
returns-in-Some-clause-room c = λ other.
    let held = c.in-Some.drawer.now in
    let now = c.clear.new.self in
    let w = c.get_mut.follows.holds now in
    rw (← c.self.view_is) (room-kept c.args.name.now held now c.self.inside.drawers.entries (c.get_mut.follows.lender now).entries (sym c.in-Some.ensures.value) w.0 c.clear.ensures.spare other)

pub overflow_sub-self : goal.overflow_sub-self
overflow_sub-self c = omega (arith, shelf_len_within c.self.invariant c.args.name.now c.in-Some.drawer.now (sym c.in-Some.ensures.value), c.len.ensures, c.from.ensures)

pub overflow_sub-self-in-Some : goal.overflow_sub-self-in-Some
overflow_sub-self-in-Some c = omega (arith, shelf_total_within c.self.invariant c.args.name.now c.in-Some.drawer.now (sym c.in-Some.ensures.value), c.bytes.ensures)

pub invariant_of-self : goal.invariant_of-self
invariant_of-self c =
    let held = c.in-Some.drawer.now in
    let now = c.clear.new.self in
    let w = c.get_mut.follows.holds now in
    rw (c.from.ensures, c.len.ensures, c.bytes.ensures) (cleared c.self.invariant c.args.name.now held now (c.get_mut.follows.lender now).entries (sym c.in-Some.ensures.value) w.0 w.1 c.clear.ensures.rows)

pub returns-in-None-clause-rows : goal.returns-in-None-clause-rows
returns-in-None-clause-rows c =
    let e = c.get_mut.follows.holds-at-none in
    rw (e, ← c.self.view_is) (without_none c.args.name.now c.self.inside.drawers.entries c.self.invariant.named (sym c.in-None.ensures.value))
