-- The greatest of all values of which something holds, and the list of all of them in order.
use Rattle.std.specs.Prelude.{◌≡◌, List, Option, Some, None, true, false, Contains}
use Rattle.std.specs.declared.cmp.Ordering.{Ordering}
use Rattle.std.specs.Ordering.{is_gt, is_lt}
use Rattle.ss_bso.specs.Lists.{Each, Pairs}

-- it holds of x, and of nothing that is greater
pub record IsGreatest {X : Type 0} (cmp : X → X → Ordering) (Holds : X → Type 0) (x : X) : Type 0 where
  pub holds : Holds x
  pub greatest : (y : X) → Holds y → is_gt (cmp y x) ≡ false

-- the greatest value of which it holds, where it holds of one
abbrev pub IsGreatestOf : {X : Type 0} → (X → X → Ordering) → (X → Type 0) → Option X → Type 0
IsGreatestOf {X} cmp Holds None = (x : X) → Holds x → ⊥
IsGreatestOf {X} cmp Holds (Some x) = IsGreatest cmp Holds x

-- everything of which it holds, each once, in order
pub record IsAllInOrder {X : Type 0} (cmp : X → X → Ordering) (Holds : X → Type 0) (xs : List X) : Type 0 where
  pub each : Each Holds xs
  pub all : (x : X) → Holds x → Contains xs x
  pub order : Pairs (λ x y. is_lt (cmp x y) ≡ true) xs
