-- What the look-ups in a valid tree give.
use Rattle.std.specs.Prelude.{◌≡◌, true, false, Some, count_by, bytes_eq}
use Rattle.ss_record.specs.declared.kinds.Kind.TheVariants.{Folder}
use Rattle.ss_record.specs.Ids.{has, places}
use Rattle.ss_tree.specs.Trees.{places_node}
use Rattle.ss_dupe.specs.Looks.{Id, Look, is_in, at, parent_of, children_of, is_places, is_root}
use Rattle.ss_dupe.specs.Walks.{Meets}
use Rattle.ss_dupe.specs.Sides.{Sides}

-- a valid tree (proved of each), told by look-ups alone
pub record HasShape (t : Look) : Type 0 where
  pub top : t places ≡ Some places_node
  pub roots_in : (x : Id) → is_root x ≡ true → (is_in t x ≡ true) × ((at t x).kind ≡ Folder) × (parent_of t x ≡ Some places)
  pub parents : (x : Id) → is_in t x ≡ true → is_places x ≡ false → is_root x ≡ false →
      (p : Id) × (parent_of t x ≡ Some p) × (is_in t p ≡ true) × ((at t p).kind ≡ Folder) × (is_places p ≡ false)
  pub once : (x p : Id) → parent_of t x ≡ Some p → count_by (bytes_eq x) (children_of t p) ≡ 1
  pub listed : (x p : Id) → has x (children_of t p) ≡ true → (is_in t x ≡ true) × (parent_of t x ≡ Some p)
  pub below : (x : Id) → is_in t x ≡ true → Meets (parent_of t) is_places x

-- of the local and of the remote tree
pub record HaveShapes (s : Sides) : Type 0 where
  pub local : HasShape s.local
  pub remote : HasShape s.remote
