use Rattle.std.proofs.Common.{sym, ap, ◌∙◌}
use Rattle.ss_bso.specs.Limits.{row_bytes}
use Rattle.ss_bso.specs.declared.rows.Row.{Row}
use Rattle.std.specs.Prelude.{List}
use Rattle.ss_index.proofs.Shelves.{rows_of-there, rows_of-none}
use Rattle.ss_index.specs.Numbers.{capped_number}
use Rattle.ss_index.proofs.shelf.Shelf.bytes_of.Goals as goal

pub returns-in-Some : goal.returns-in-Some
returns-in-Some c =
    let rows = rows_of-there c.args.collection.now c.in-Some.drawer.now c.self.inside.drawers.entries c.self.invariant.named c.self.invariant.names (sym c.in-Some.ensures.value) in
    rw (← c.self.view_is) (c.capped.ensures ∙ ap capped_number (c.bytes.ensures ∙ sym (ap (λ (l : List Row). row_bytes l) rows)))

pub returns-in-None : goal.returns-in-None
returns-in-None c =
    let rows = rows_of-none c.args.collection.now c.self.inside.drawers.entries c.self.invariant.named (sym c.in-None.ensures.value) in
    rw (← c.self.view_is) (sym (ap (λ (l : List Row). capped_number (row_bytes l)) rows))
