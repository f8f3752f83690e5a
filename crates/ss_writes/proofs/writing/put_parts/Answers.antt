use Rattle.std.proofs.Common.{sym, ap, ◌∙◌}
use Rattle.ss_bso.specs.Account.{row_at}
use Rattle.ss_index.specs.Shelved.{rows_in}
use Rattle.ss_writes.specs.Parts.{with_row}
use Rattle.ss_writes.proofs.Made.{fold-more}
use Rattle.ss_writes.proofs.writing.put_parts.Goals as goal

pub loop-part-preserved : goal.loop-part-preserved
loop-part-preserved c =
    let put_over = with_row c.args.collection.now (λ id. row_at c.args.collection.now id (rows_in c.args.shelf.now)) c.args.stamp in
    c.in_ok-put_part.ensures
    ∙ ap (λ made. put_over made c.part-item.result) c.loop-part.invariant
    ∙ sym (fold-more put_over c.args.made.now.entries c.args.parts.now c.loop-part.part-index c.part-item.result c.loop-part-test.true c.part-item.is)
