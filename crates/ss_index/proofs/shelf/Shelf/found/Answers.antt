use Rattle.std.proofs.Common.{sym, refl}
use Rattle.ss_index.proofs.Shelves.{rows_of-there, rows_of-none}
use Rattle.ss_index.proofs.shelf.Shelf.found.Goals as goal

pub returns-in-Some-clause-steps : goal.returns-in-Some-clause-steps
returns-in-Some-clause-steps g c =
    let rows = rows_of-there c.args.collection.now c.in-Some.drawer.now c.self.inside.drawers.entries c.self.invariant.named c.self.invariant.names (sym c.in-Some.ensures.value) in
    rw (← c.self.view_is, rows) c.found.ensures.steps

pub returns-in-Some-clause-answer : goal.returns-in-Some-clause-answer
returns-in-Some-clause-answer g c =
    let rows = rows_of-there c.args.collection.now c.in-Some.drawer.now c.self.inside.drawers.entries c.self.invariant.named c.self.invariant.names (sym c.in-Some.ensures.value) in
    rw (← c.self.view_is, rows) c.found.ensures.answer

pub returns-in-None-clause-answer : goal.returns-in-None-clause-answer
returns-in-None-clause-answer g c =
    let rows = rows_of-none c.args.collection.now c.self.inside.drawers.entries c.self.invariant.named (sym c.in-None.ensures.value) in
    rw (← c.self.view_is, rows, c.new.ensures.items) refl
