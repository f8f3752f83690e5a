-- An item in its place, as it is read out of a tree.
use Rattle.ss_tree.specs.Trees.{PlacedItem}
use Rattle.ss_plan.specs.declared.seats.Seat.{Seat}

abbrev pub placed_at : Seat → PlacedItem
placed_at s = record { id = s.item.now.id; kind = s.item.now.kind; content = s.item.now.content; parent = s.parent; children = s.children.items; time = s.time }
