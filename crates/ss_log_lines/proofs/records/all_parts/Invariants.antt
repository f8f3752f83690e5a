use Rattle.std.proofs.Common.{◌≡◌, ◌++◌, drop, option_map}
use Rattle.serde_json.specs.View.{items_view}
use Rattle.ss_log_lines.specs.Values.{all_from, part_from}
use Rattle.ss_log_lines.proofs.records.all_parts.Given as goal

abbrev pub invariant-loop-value : goal.invariant-loop-value
invariant-loop-value l =
    all_from part_from (items_view l.values.items) ≡ option_map (λ rest. l.parts.items ++ rest) (all_from part_from (items_view (drop l.value-index l.values.items)))
