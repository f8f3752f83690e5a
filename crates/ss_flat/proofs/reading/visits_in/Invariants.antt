use Rattle.std.proofs.Common.{◌≡◌, ◌++◌, drop, option_map}
use Rattle.serde_json.specs.View.{items_view}
use Rattle.ss_flat.specs.Readings.{visits_in}
use Rattle.ss_flat.proofs.reading.visits_in.Given as goal

abbrev pub invariant-loop-item : goal.invariant-loop-item
invariant-loop-item l = visits_in (items_view l.items.items) ≡ option_map (λ rest. l.visits.items ++ rest) (visits_in (items_view (drop l.item-index l.items.items)))
