-- Ways from id to id, and the nearest goals on them.
use Rattle.std.specs.Prelude.{◌≡◌, ℕ, Bool, true, List, length, Option, Some, None, is_some, if◌then◌else◌, bytes_eq}
use Rattle.std.specs.HashMap.{get}
use Rattle.ss_record.specs.Ids.{has}
use Rattle.ss_dupe.specs.Looks.{Id, is_root, parent_of}
use Rattle.ss_dupe.specs.Plains.{view}
use Rattle.ss_dupe.specs.Shapes.{HaveShapes}
use Rattle.ss_dupe.specs.Sides.{tree_of}
use Rattle.ss_merge.specs.declared.ways.Way.{Way}
use Rattle.ss_merge.specs.declared.ways.Way.TheVariants.{Up, Chosen}
use Rattle.ss_merge.specs.Nearest.{nearest}
use Rattle.ss_merge.specs.Survivors.{is_merged_folder}

-- the next id on a way
abbrev pub next_on : Way → Id → Option Id
next_on (Up plains side) x = parent_of (tree_of (view plains.now) side) x
next_on (Chosen chosen) x = get bytes_eq chosen.now x

-- the goals: the merged folders, or the roots
abbrev pub is_goal_on : Way → Id → Bool
is_goal_on (Up plains side) x = is_merged_folder (view plains.now) x
is_goal_on (Chosen chosen) x = is_root x

-- the trees of the way are those of a merge
abbrev pub HasShape : Way → Type 0
HasShape (Up plains side) = HaveShapes (view plains.now)
HasShape (Chosen chosen) = Unit {0}

-- the nearest goal after an id, within n steps
abbrev pub nearest_on : Way → ℕ → Id → Option Id
nearest_on way n x = nearest (next_on way) (is_goal_on way) n x

-- no step leads out of the ids
abbrev pub StaysIn : Way → List Id → Type 0
StaysIn way ids = (x y : Id) → has x ids ≡ true → next_on way x ≡ Some y → has y ids ≡ true

-- what is marked is the nearest goal, or none where there is none
abbrev pub AreMarks : Way → List Id → (Id → Option (Option Id)) → Type 0
AreMarks way ids marks = (x : Id) (goal : Option Id) → marks x ≡ Some goal → nearest_on way (length ids) x ≡ goal

-- the ids of a path were marked as without a goal, and each has this nearest one
pub record WalksPath (way : Way) (ids : List Id) (old new : Id → Option (Option Id)) (path : List Id) (start : Id) (goal : Option Id) : Type 0 where
  pub marks : (x : Id) → new x ≡ (if has x path then Some None else old x)
  pub near : (x : Id) → has x path ≡ true → nearest_on way (length ids) x ≡ goal
  pub met : is_some (new start) ≡ true

-- the ids of a path were marked with a goal
pub record MarksPath (old new : Id → Option (Option Id)) (path : List Id) (goal : Option Id) : Type 0 where
  pub told : (x : Id) → new x ≡ (if has x path then Some goal else old x)
