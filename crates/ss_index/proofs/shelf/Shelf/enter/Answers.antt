use Rattle.std.proofs.Common.{sym, ap, arith, ◌∙◌}
use Rattle.ss_index.specs.Shelved.{rows_in}
use Rattle.ss_index.proofs.Shelves.{shelf_len_within}
use Rattle.ss_index.proofs.Changing.{same_in, touched}
use Rattle.ss_index.proofs.shelf.Shelf.enter.Goals as goal

pub reserve-requires : goal.reserve-requires
reserve-requires c =
    let within = shelf_len_within c.self.invariant c.args.collection.now c.in-Some.drawer.now (sym c.in-Some.ensures.value) in
    let bound = rw (← c.self.view_is) at c.requires in
    omega (arith, within, bound, c.self.invariant.len_counts)

pub invariant_of-self : goal.invariant_of-self
invariant_of-self c =
    let now = c.reserve.new.self in
    let w = c.get_mut.follows.holds now in
    touched c.self.invariant c.args.collection.now c.in-Some.drawer.now now (c.get_mut.follows.lender now).entries c.reserve.ensures.rows (sym c.in-Some.ensures.value) w.0 w.1

pub returns-in-Some-clause-rows : goal.returns-in-Some-clause-rows
returns-in-Some-clause-rows c =
    let now = c.reserve.new.self in
    let w = c.get_mut.follows.holds now in
    rw (← c.self.view_is) (ap (λ l. rows_in l) w.0 ∙ same_in c.args.collection.now c.in-Some.drawer.now now c.reserve.ensures.rows c.self.inside.drawers.entries (sym c.in-Some.ensures.value))
