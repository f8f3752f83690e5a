use Rattle.std.proofs.Common.{sym}
use Rattle.ss_index.proofs.Shelves.{rows_of-there, rows_of-none}
use Rattle.ss_index.proofs.shelf.Shelf.is_last.Goals as goal

pub returns-in-Some-clause-last : goal.returns-in-Some-clause-last
returns-in-Some-clause-last c = λ t.
    let rows = rows_of-there c.args.row.now.collection c.in-Some.drawer.now c.self.inside.drawers.entries c.self.invariant.named c.self.invariant.names (sym c.in-Some.ensures.value) in
    rw (← c.self.view_is, rows) (c.is_last.ensures.last t)

pub returns-in-Some-clause-sooner : goal.returns-in-Some-clause-sooner
returns-in-Some-clause-sooner c = λ f.
    let rows = rows_of-there c.args.row.now.collection c.in-Some.drawer.now c.self.inside.drawers.entries c.self.invariant.named c.self.invariant.names (sym c.in-Some.ensures.value) in
    rw (← c.self.view_is, rows) (c.is_last.ensures.sooner f)

pub returns-in-None-clause-last : goal.returns-in-None-clause-last
returns-in-None-clause-last c = λ t.
    let rows = rows_of-none c.args.row.now.collection c.self.inside.drawers.entries c.self.invariant.named (sym c.in-None.ensures.value) in
    rw (← c.self.view_is, rows) tt
