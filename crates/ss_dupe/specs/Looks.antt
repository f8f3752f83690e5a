-- Trees as maps from ids, and what stands at an id.
use Rattle.std.specs.Prelude.{ℕ, List, [], Bool, Option, None, is_some, bytes_eq}
use Rattle.std.specs.Option.{unwrap_or}
use Rattle.ss_record.specs.declared.kinds.Kind.TheVariants.{Separator}
use Rattle.ss_record.specs.Ids.{has, places, roots}
use Rattle.ss_tree.specs.Trees.{PlacedItem, node}

abbrev pub Id : Type 0
Id = List ℕ

-- the item of an id, where the tree has one
abbrev pub Look : Type 0
Look = Id → Option PlacedItem

abbrev pub look : List PlacedItem → Look
look t x = node x t

unfoldable pub is_in : Look → Id → Bool
is_in t x = is_some (t x)

-- read for an id that isn't in the tree
abbrev pub blank : PlacedItem
blank = record { id = []; kind = Separator; content = []; parent = None; children = []; time = 0 }

unfoldable pub at : Look → Id → PlacedItem
at t x = unwrap_or (t x) blank

abbrev pub parent_of : Look → Id → Option Id
parent_of t x = (at t x).parent

abbrev pub children_of : Look → Id → List Id
children_of t x = (at t x).children

unfoldable pub is_places : Id → Bool
is_places x = bytes_eq x places

unfoldable pub is_root : Id → Bool
is_root x = has x roots
