use Rattle.std.proofs.Common.{sym, ap, ◌∙◌}
use Rattle.std.specs.Prelude.{find}
use Rattle.ss_index.specs.Held.{has_id}
use Rattle.ss_index.proofs.Shelves.{rows_of-there, rows_of-none, row_at-of}
use Rattle.ss_index.specs.Shelved.{rows_in}
use Rattle.ss_index.proofs.shelf.Shelf.get.Goals as goal

pub returns-in-Some : goal.returns-in-Some
returns-in-Some c =
    rw (← c.self.view_is)
    (c.get-in-Some.ensures ∙ sym (row_at-of c.args.collection.now c.args.id.now (rows_in c.self.inside.drawers.entries)
    ∙ ap (λ rows. find (has_id c.args.id.now) rows) (rows_of-there c.args.collection.now c.in-Some.drawer.now c.self.inside.drawers.entries c.self.invariant.named c.self.invariant.names (sym c.in-Some.ensures.value))))

pub returns-in-None : goal.returns-in-None
returns-in-None c =
    rw (← c.self.view_is)
    (sym (row_at-of c.args.collection.now c.args.id.now (rows_in c.self.inside.drawers.entries)
    ∙ ap (λ rows. find (has_id c.args.id.now) rows) (rows_of-none c.args.collection.now c.self.inside.drawers.entries c.self.invariant.named (sym c.in-None.ensures.value))))
