-- Several desks, and a pass to each of them at the same place of another list.
use Rattle.std.specs.Prelude.{◌≡◌, ◌≢◌, ℕ, zero, suc, ◌<◌, List, [], ◌∷◌, length, slice_index_or}
use Rattle.ss_desk.specs.declared.desk.Desk.{Desk}
use Rattle.ss_desk.specs.declared.pass.RawPass.{RawPass}
use Rattle.ss_desk.specs.declared.view.View.{View}
use Rattle.ss_desk.specs.Desks.{view, IsPassOf}
use Rattle.ss_desk.specs.Views.{spent, joined_view, lower, upper}

module _ {T F E A R : Type 0} where
  -- each pass is of the desk at its place
  abbrev pub AreOf : List (Desk T F E A R) → List (RawPass T F E) → Type 0
  AreOf desks passes = (length passes ≡ length desks) × ((i : ℕ) (d : Desk T F E A R) (p : RawPass T F E) → i < length desks → IsPassOf (slice_index_or desks i d) (slice_index_or passes i p))

module _ {T F E : Type 0} where
  -- what the pass at this place knows
  abbrev pub view_at : List (RawPass T F E) → ℕ → View F E
  view_at [] i = spent
  view_at (p ∷ ps) zero = view p
  view_at (p ∷ ps) (suc i) = view_at ps i

  -- what the pass at this place has seen
  abbrev pub seen_at : List (RawPass T F E) → ℕ → List E
  seen_at ps i = (view_at ps i).seen

  -- what the passes at the other places know is as before
  abbrev pub SameOthers : ℕ → List (RawPass T F E) → List (RawPass T F E) → Type 0
  SameOthers i ps qs = (length qs ≡ length ps) × ((j : ℕ) → j ≢ i → view_at qs j ≡ view_at ps j)

  -- each of the passes has taken in the one at its place
  abbrev pub Joins : List (RawPass T F E) → List (RawPass T F E) → List (RawPass T F E) → Type 0
  Joins ps os qs = (length qs ≡ length ps) × ((i : ℕ) → i < length os → view_at qs i ≡ joined_view (view_at ps i) (view_at os i))

  -- each of the passes has given the upper half of its numbers to the new one at its place
  abbrev pub Halves : List (RawPass T F E) → List (RawPass T F E) → List (RawPass T F E) → Type 0
  Halves ps qs rs = (length qs ≡ length ps) × (length rs ≡ length ps) × ((i : ℕ) → i < length ps → (view_at qs i ≡ lower (view_at ps i)) × (view_at rs i ≡ upper (view_at ps i)))
