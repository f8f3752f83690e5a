use Rattle.std.proofs.Common.{sym, subst, append-nil}
use Rattle.ss_text.specs.Texts.{IsReordering}
use Rattle.ss_bso.proofs.Reordering.{reordered-refl}
use Rattle.ss_index.proofs.shelf.Shelf.copy_drawer.Goals as goal

pub returns-in-None : goal.returns-in-None
returns-in-None g c =
    let rows = c.args.rows.now.items in
    rw (← c.self.view_is, sym c.in-None.ensures.entry) (subst (λ l. IsReordering l rows) (sym (append-nil rows)) (reordered-refl rows))
