use Rattle.std.proofs.Common.{rules}
use Rattle.ss_flat.specs.Lists.{visit_cmp}
use Rattle.ss_flat.proofs.Orders.{visit_total}
use Rattle.ss_flat.proofs.SortedBy.{sorted_by}
use Rattle.ss_flat.proofs.visits.in_order.Goals as goal

pub returns : goal.returns
returns c = sorted_by visit_cmp visit_total _ _ c.in_ok-sort_by.ensures.sorted c.in_ok-sort_by.ensures.stable (λ a r q k. search rules)
