use Rattle.std.proofs.Common.{◌≡◌, ◌++◌, drop, option_map}
use Rattle.json.specs.Value.{items_view}
use Rattle.ss_hearing.specs.Bodies.{id_of, each}
use Rattle.ss_hearing.proofs.lists.each_id.Given as goal

abbrev pub invariant-loop-item : goal.invariant-loop-item
invariant-loop-item l = each id_of (items_view l.items.items) ≡ option_map (λ rest. l.ids.items ++ rest) (each id_of (items_view (drop l.item-index l.items.items)))
