-- Facts of ids in maps, and what the maps' parents give.
use Rattle.std.specs.Prelude.{◌≡◌, ◌&&◌, not, true, Bool, List, Option, Some, None, if◌then◌else◌, bytes_eq, filter}
use Rattle.std.specs.Prelude.{unwrap_or, option_map}
use Rattle.ss_record.specs.Ids.{Apart, has}
use Rattle.ss_tree.specs.Trees.{PlacedItem}
use Rattle.ss_build.specs.declared.claims.Claim.{Claim}
use Rattle.ss_dupe.specs.declared.plain.Seat.{Seat}
use Rattle.ss_dupe.specs.Looks.{Id, Look, is_in, is_root}
use Rattle.ss_dupe.specs.Plains.{placed_at}
use Rattle.ss_dupe.specs.Walks.{passes}
use Rattle.ss_dupe.specs.Sides.{Sides}
use Rattle.ss_dupe.specs.Renaming.{renamed_item}
use Rattle.ss_merge.specs.Survivors.{content_of, survives}
use Rattle.ss_merge.specs.Merged.{merged_children}

-- the first of these that there is
abbrev pub or_else : {A : Type 0} → Option A → Option A → Option A
or_else (Some a) b = Some a
or_else None b = b

-- the map has what f gives of each of the ids, and nothing of another one
abbrev pub Holds : {A : Type 0} → (Id → Option A) → (Id → Option A) → List Id → Type 0
Holds found f ids = (x : Id) → found x ≡ (if has x ids then f x else None)

-- a survivor that is no root, whose parent by f is p
unfoldable pub is_under : Sides → (Id → Option Id) → Id → Id → Bool
is_under s f p x = (survives s x && not (is_root x)) && passes (bytes_eq p) (f x)

-- a merged item with its parent and children by f
unfoldable pub claim_by : Sides → (Id → Option Id) → Id → Claim
claim_by s f x = record {
  item = record { id = x; kind = (content_of s x).kind; content = (content_of s x).content };
  parentid = if is_root x then None else f x;
  children = filter (is_under s f x) (merged_children s x);
  time = 0;
}

-- the name that a map gives an id; each other id stays
abbrev pub by_map : (Id → Option Id) → Id → Id
by_map f x = unwrap_or (f x) x

-- the items of a map, in their places
abbrev pub look_by : (Id → Option Seat) → Look
look_by g x = option_map placed_at (g x)

-- the item of y, where t has it, is put in by its name
abbrev pub TakesIn : (Id → Id) → Id → Look → Look → Look → Type 0
TakesIn name y t old new = (x : Id) → new x ≡ (if bytes_eq (name y) x then or_else (option_map (renamed_item name) (t y)) (old x) else old x)

-- no two ids of a tree get one name, and each item has its own id
pub record AreNames (t : Look) (name : Id → Id) : Type 0 where
  pub apart : (x y : Id) → is_in t x ≡ true → is_in t y ≡ true → name x ≡ name y → x ≡ y
  pub own : (x : Id) (n : PlacedItem) → t x ≡ Some n → n.id ≡ x

-- another tree has its items by these names, and nothing else
pub record NamesAnew (t : Look) (name : Id → Id) (u : Look) : Type 0 where
  pub named : (x : Id) → is_in t x ≡ true → u (name x) ≡ option_map (renamed_item name) (t x)
  pub from : (q : Id) → is_in u q ≡ true → (x : Id) × (is_in t x ≡ true) × (q ≡ name x)

-- each id once, and the test tells which ones
pub record GathersIds (seen : Id → Bool) (ids : List Id) : Type 0 where
  pub apart : Apart ids
  pub told : (x : Id) → seen x ≡ has x ids
