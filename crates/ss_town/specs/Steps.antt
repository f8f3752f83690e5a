-- How far a loop over the desks has come.
use Rattle.std.specs.Prelude.{◌≡◌, ℕ, ◌<◌, ◌≤◌, List, [], ◌∷◌, ◌++◌, length, slice_index_or}
use Rattle.ss_desk.specs.declared.desk.Desk.{Desk}
use Rattle.ss_desk.specs.declared.pass.RawPass.{RawPass}
use Rattle.ss_desk.specs.Desks.{IsPassOf}
use Rattle.ss_desk.specs.Views.{joined_view, lower, upper, numbers}
use Rattle.ss_desk.specs.Passes.{AreOf, view_at}

module _ {T F E A R : Type 0} where
  -- the passes at the places of `rest` are still to be taken in
  pub record Joining (desks : List (Desk T F E A R)) (ps os qs rest : List (RawPass T F E)) : Type 0 where
    pub of : AreOf desks qs
    pub length_is : length qs ≡ length ps
    pub others : AreOf desks os
    pub tail : List (RawPass T F E)
    pub split : os ≡ rest ++ tail
    pub before : (j : ℕ) → j < length rest → view_at qs j ≡ view_at ps j
    pub after : (j : ℕ) → length rest ≤ j → j < length os → view_at qs j ≡ joined_view (view_at ps j) (view_at os j)

  -- the passes below i are halved
  pub record Halving (desks : List (Desk T F E A R)) (ps qs rs : List (RawPass T F E)) (i : ℕ) : Type 0 where
    pub of : AreOf desks qs
    pub length_is : length qs ≡ length ps
    pub count : length rs ≡ i
    pub others : (j : ℕ) (d : Desk T F E A R) (p : RawPass T F E) → j < i → IsPassOf (slice_index_or desks j d) (slice_index_or rs j p)
    pub before : (j : ℕ) → j < i → (view_at qs j ≡ lower (view_at ps j)) × (view_at rs j ≡ upper (view_at ps j))
    pub after : (j : ℕ) → i ≤ j → view_at qs j ≡ view_at ps j

module _ {T F E : Type 0} where
  -- n is the least of how many numbers the passes below k hold, and one of the list
  pub record LeastBelow (n : ℕ) (ps : List (RawPass T F E)) (k : ℕ) : Type 0 where
    pub place : ℕ
    pub inside : place < length ps
    pub there : n ≡ numbers (view_at ps place)
    pub below : (i : ℕ) → i < k → n ≤ numbers (view_at ps i)
