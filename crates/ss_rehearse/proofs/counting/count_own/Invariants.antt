use Rattle.std.proofs.Common.{◌≡◌, ◌≤◌, take}
use Rattle.std.specs.Prelude.{sum_by}
use Rattle.ss_rehearse.specs.Summaries.{is_own, item_at, once_where}
use Rattle.ss_rehearse.proofs.counting.count_own.Given as goal

abbrev pub invariant-loop-node : goal.invariant-loop-node
invariant-loop-node l = record {
  counted : l.count ≡ sum_by (λ k. once_where is_own (item_at l.tree k)) (take l.node-index l.node-items);
  few : l.count ≤ l.node-index;
}
