use Rattle.std.proofs.Common.{◌≡◌, ◌++◌, drop, option_map}
use Rattle.serde_json.specs.View.{items_view}
use Rattle.ss_log_lines.specs.Values.{all_from, failure_from}
use Rattle.ss_log_lines.proofs.records.all_failures.Given as goal

abbrev pub invariant-loop-value : goal.invariant-loop-value
invariant-loop-value l =
    all_from failure_from (items_view l.values.items) ≡ option_map (λ rest. l.failures.items ++ rest) (all_from failure_from (items_view (drop l.value-index l.values.items)))
