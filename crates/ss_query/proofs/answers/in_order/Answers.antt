use Rattle.std.proofs.Common.{rules}
use Rattle.ss_query.specs.Answer.{row_cmp}
use Rattle.ss_query.proofs.Orders.{row_total}
use Rattle.ss_query.proofs.Sorting.{sorted_by_closure}
use Rattle.ss_query.proofs.answers.in_order.Goals as goal

pub returns : goal.returns
returns c =
    sorted_by_closure (row_cmp c.args.sort) (row_total c.args.sort) (λ row. row.now) _ _ c.in_ok-sort_by.ensures.sorted c.in_ok-sort_by.ensures.stable (λ a r q k. search rules)
