use Rattle.std.proofs.Common.{◌≡◌, ◌++◌, drop, option_map}
use Rattle.json.specs.Value.{items_view}
use Rattle.ss_hearing.specs.Bodies.{each}
use Rattle.ss_hearing.specs.Lists.{sheet_of}
use Rattle.ss_hearing.proofs.lists.each_row.Given as goal

abbrev pub invariant-loop-item : goal.invariant-loop-item
invariant-loop-item l = each sheet_of (items_view l.items.items) ≡ option_map (λ rest. l.rows.items ++ rest) (each sheet_of (items_view (drop l.item-index l.items.items)))
