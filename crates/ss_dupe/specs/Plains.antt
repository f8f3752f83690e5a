-- Trees that were read out.
use Rattle.std.specs.Prelude.{◌≡◌, bytes_eq, option_map}
use Rattle.std.specs.HashMap.{get}
use Rattle.std.specs.HashSet.{contains_by}
use Rattle.ss_record.specs.Ids.{has}
use Rattle.ss_tree.specs.Trees.{PlacedItem}
use Rattle.ss_dupe.specs.declared.plain.Seat.{Seat}
use Rattle.ss_dupe.specs.declared.plain.PlainTree.{PlainTree}
use Rattle.ss_dupe.specs.declared.plains.Plains.{Plains}
use Rattle.ss_dupe.specs.Looks.{Id, Look, is_in}
use Rattle.ss_dupe.specs.Sides.{Sides}

-- an item in its place
abbrev pub placed_at : Seat → PlacedItem
placed_at s = record { id = s.id; kind = s.item.now.kind; content = s.item.now.content; parent = s.parent; children = s.children.items; time = s.time }

abbrev pub look_of : PlainTree → Look
look_of p x = option_map placed_at (get bytes_eq p.seats x)

-- the ids that are listed are those of the tree
abbrev pub AreIds : PlainTree → Type 0
AreIds p = (x : Id) → has x p.ids.items ≡ is_in (look_of p) x

abbrev pub view : Plains → Sides
view p = record {
  mirror = look_of p.mirror;
  local = look_of p.local;
  remote = look_of p.remote;
  local_dead = λ x. contains_by (bytes_eq x) p.local_dead;
  remote_dead = λ x. contains_by (bytes_eq x) p.remote_dead;
}
