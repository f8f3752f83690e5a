-- The places of items in a device's file: its item lines stand in preorder, by the four roots and the children that the
-- lines in front name.
use Rattle.std.specs.Prelude.{◌≡◌, ◌&&◌, ℕ, List, [], ◌∷◌, ◌++◌, ◌-◌, length, Bool, true, false, not, Some, map}
use Rattle.std.specs.Prelude.{bytes_eq, codes, unwrap_or, option_map}
use Rattle.std.specs.List.{slice_get}
use Rattle.ss_record.specs.Ids.{has, places, roots}
use Rattle.ss_tree.specs.Trees.{PlacedItem, places_node}
use Rattle.ss_device_file.specs.declared.lines.ItemLine.{ItemLine}
use Rattle.ss_device_file.specs.Lines.{IsItemLine}

-- an id that is to come, and its parent's
abbrev pub Seat : Type 0
Seat = List ℕ × List ℕ

-- the four roots, which come first
abbrev pub root_seats : List Seat
root_seats = map (λ r. (r, places)) roots

-- the children of an item
abbrev pub child_seats : ItemLine → List Seat
child_seats i = map (λ x. (x, i.item.id)) i.children

-- what is to come once the first of these has come, with its children next
abbrev pub seats_behind : List Seat → ItemLine → List Seat
seats_behind [] i = child_seats i
seats_behind (s ∷ seats) i = child_seats i ++ seats

-- what is to come behind these item lines
abbrev pub seats_after : List Seat → List ItemLine → List Seat
seats_after seats [] = seats
seats_after seats (i ∷ is) = seats_after (seats_behind seats i) is

unfoldable pub seats_left : List ItemLine → List Seat
seats_left is = seats_after root_seats is

unfoldable pub item_ids : List ItemLine → List (List ℕ)
item_ids is = map (λ i. i.item.id) is

-- the item and its parent are those that come next
abbrev pub is_next : List Seat → ItemLine → Bool
is_next [] i = false
is_next (s ∷ seats) i = bytes_eq s.0 i.item.id && bytes_eq s.1 i.parent

-- the item has its place behind these lines: it is the one that comes next, and is on none of them
unfoldable pub has_place : List ItemLine → ItemLine → Bool
has_place front i = is_next (seats_left front) i && not (has i.item.id (item_ids front))

-- each of the items has its place behind those in front of it
abbrev pub PlacedAfter : List ItemLine → List ItemLine → Type 0
PlacedAfter front [] = Unit {0}
PlacedAfter front (i ∷ is) = (has_place front i ≡ true) × PlacedAfter (front ++ i ∷ []) is

unfoldable pub ArePlaced : List ItemLine → Type 0
ArePlaced is = PlacedAfter [] is

-- the first id of an item that hasn't its place
pub record IsAstray (is : List ItemLine) (id : List ℕ) : Type 0 where
  pub front : List ItemLine
  pub item : ItemLine
  pub back : List ItemLine
  pub split : is ≡ front ++ item ∷ back
  pub placed : ArePlaced front
  pub wrong : has_place front item ≡ false
  pub named : id ≡ item.item.id

-- the id of the last item; `menu` where there is none
abbrev pub last_id : List ItemLine → List ℕ
last_id is = unwrap_or (option_map (λ i. i.item.id) (slice_get is (length is - 1))) (codes "menu")

-- all items have their places, and some are still to come
pub record IsShort (is : List ItemLine) (id : List ℕ) : Type 0 where
  pub placed : ArePlaced is
  pub seat : Seat
  pub seats : List Seat
  pub left : seats_left is ≡ seat ∷ seats
  pub named : id ≡ last_id is

-- all items have their places, and none is to come
pub record IsWhole (is : List ItemLine) : Type 0 where
  pub placed : ArePlaced is
  pub left : seats_left is ≡ []

-- the tree that they make, with the times on their lines
abbrev pub placed_of : ItemLine → PlacedItem
placed_of i = record { id = i.item.id; kind = i.item.kind; content = i.item.content; parent = Some i.parent; children = i.children; time = i.time }

unfoldable pub tree_of : List ItemLine → List PlacedItem
tree_of is = places_node ∷ map placed_of is

-- the items are in form
abbrev pub AreItemLines : List ItemLine → Type 0
AreItemLines [] = Unit {0}
AreItemLines (i ∷ is) = IsItemLine i × AreItemLines is
