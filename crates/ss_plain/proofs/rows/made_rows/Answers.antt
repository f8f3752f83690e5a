use Rattle.std.proofs.Common.{List, ℕ, sym, ◌∙◌, ◌++◌}
use Rattle.std.specs.Option.{option_to_list}
use Rattle.ss_bso.specs.Account.{row_at}
use Rattle.ss_bso.specs.Write.{parts_of, put_all}
use Rattle.ss_writes.proofs.Made.{found-more}
use Rattle.ss_plain.proofs.rows.made_rows.Goals as goal

pub loop-id-preserved : goal.loop-id-preserved
loop-id-preserved c =
    let make : List ℕ → _ = λ id. put_all c.args.collection.now (parts_of id c.args.parts.now) c.args.stamp (row_at c.args.collection.now id c.args.rows.now) in
    c.in_ok-push_some.ensures
    ∙ (λ i. c.loop-id.invariant i ++ option_to_list (c.in_ok-row.ensures i))
    ∙ sym (found-more make c.args.ids.now c.loop-id.id-index c.id-item.result c.loop-id-test.true c.id-item.is)
