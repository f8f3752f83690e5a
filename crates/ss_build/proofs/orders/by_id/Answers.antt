use Rattle.std.proofs.Common.{◌∙◌}
use Rattle.ss_build.proofs.Sorting.{by_id_is}
use Rattle.ss_build.proofs.orders.by_id.Goals as goal

pub returns : goal.returns
returns c = c.new.ensures ∙ by_id_is _ _ c.in_ok-sort.ensures.sorted c.in_ok-sort.ensures.stable
