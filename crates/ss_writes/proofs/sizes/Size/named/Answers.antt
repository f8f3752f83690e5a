use Rattle.std.proofs.Common.{List, ℕ, ◌++◌, filter_map, subst, sym, ap, take, ◌∙◌}
use Rattle.std.specs.Option.{option_to_list}
use Rattle.ss_bso.specs.declared.rows.Row.{Row}
use Rattle.ss_bso.specs.Account.{row_at}
use Rattle.ss_index.specs.Shelved.{rows_in}
use Rattle.ss_writes.specs.Parts.{IsSize}
use Rattle.ss_writes.proofs.Made.{found-more}
use Rattle.ss_writes.proofs.sizes.Size.named.Goals as goal

pub loop-id-preserved : goal.loop-id-preserved
loop-id-preserved c =
    let old : List ℕ → _ = λ id. row_at c.args.collection.now id (rows_in c.args.shelf.now) in
    let past : List Row = filter_map old (take c.loop-id.id-index c.as_slice-ids.result.now) in
    subst (λ (rows : List Row). IsSize rows c.with_found-size.result) (sym (found-more old c.as_slice-ids.result.now c.loop-id.id-index c.id-item.result c.loop-id-test.true c.id-item.is))
    (subst (λ o. IsSize (past ++ option_to_list o) c.with_found-size.result) c.get.ensures (c.with_found-size.ensures past c.loop-id.invariant))
