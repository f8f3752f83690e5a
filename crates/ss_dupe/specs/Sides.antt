-- The sides of a merge, and what is new on a side.
use Rattle.std.specs.Prelude.{List, Bool, not, ◌||◌, ◌&&◌}
use Rattle.ss_record.specs.Ids.{has}
use Rattle.ss_tree.specs.Trees.{PlacedItem}
use Rattle.ss_tree.specs.Entries.{tree}
use Rattle.ss_tree.specs.declared.sides.Sides.{Sides as Asked}
use Rattle.ss_dupe.specs.declared.sides.Side.{Side}
use Rattle.ss_dupe.specs.declared.sides.Side.TheVariants.{Local, Remote}
use Rattle.ss_dupe.specs.Looks.{Id, Look, look, is_in}

-- the trees by ids, and whether an id was deleted
pub record Sides : Type 0 where
  pub mirror : Look
  pub local : Look
  pub remote : Look
  pub local_dead : Id → Bool
  pub remote_dead : Id → Bool

abbrev pub sides : List PlacedItem → List PlacedItem → List PlacedItem → List Id → List Id → Sides
sides mirror local remote local_dead remote_dead = record {
  mirror = look mirror;
  local = look local;
  remote = look remote;
  local_dead = λ x. has x local_dead;
  remote_dead = λ x. has x remote_dead;
}

-- what a merge is asked of
abbrev pub sides_asked : Asked → Sides
sides_asked s = sides (tree s.mirror.now) (tree s.local.now) (tree s.remote.now) s.local_dead.now s.remote_dead.now

abbrev pub other : Side → Side
other Local = Remote
other Remote = Local

abbrev pub tree_of : Sides → Side → Look
tree_of s Local = s.local
tree_of s Remote = s.remote

-- deleted on a side: told so, or on the remote side wanting where the mirror has it
abbrev pub deleted_on : Sides → Side → Id → Bool
deleted_on s Local x = s.local_dead x
deleted_on s Remote x = s.remote_dead x || (is_in s.mirror x && not (is_in s.remote x))

-- in that side's tree, and neither in the mirror, nor in the other tree, nor deleted on the other side
unfoldable pub is_new : Sides → Side → Id → Bool
is_new s side x = is_in (tree_of s side) x && (not (is_in s.mirror x) && (not (is_in (tree_of s (other side)) x) && not (deleted_on s (other side) x)))
