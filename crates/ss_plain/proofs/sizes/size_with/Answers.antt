use Rattle.std.proofs.Common.{◌++◌, ◌∷◌, [], List, sym, ap, subst, ◌∙◌, append_assoc, take}
use Rattle.std.proofs.lemmas.List.{take_more, take_all}
use Rattle.ss_bso.specs.declared.rows.Row.{Row}
use Rattle.ss_writes.specs.Parts.{IsSize}
use Rattle.ss_plain.proofs.sizes.size_with.Goals as goal

pub loop-row-preserved : goal.loop-row-preserved
loop-row-preserved c = λ old h.
    let rows : List Row = c.args.rows.now in
    let k = c.loop-row.row-index in
    let row = c.row-item.result in
    subst (λ (all : List Row). IsSize all c.with-size.result)
    (append_assoc old (take k rows) (row ∷ []) ∙ ap (λ more. old ++ more) (sym (take_more rows k row c.loop-row-test.true ∙ ap (λ (x : Row). take k rows ++ x ∷ []) (sym c.row-item.is))))
    (c.with-size.ensures (old ++ take k rows) (c.loop-row.invariant old h))

pub returns : goal.returns
returns c = λ old h.
    subst (λ (rows : List Row). IsSize (old ++ rows) c.loop-row.size) (take_all c.loop-row.row-index c.args.rows.now c.loop-row-test.false) (c.loop-row.invariant old h)
