-- The first goal on a walk.
use Rattle.std.specs.Prelude.{ℕ, zero, suc, Bool, if◌then◌else◌, Option, Some, None}

-- the value where it is a goal, else what the next one gives
abbrev pub goal_or : {A : Type 0} → (A → Bool) → (A → Option A) → Option A → Option A
goal_or goal next None = None
goal_or goal next (Some p) = if goal p then Some p else next p

-- the first goal after x on the walk of at most n steps
abbrev pub nearest : {A : Type 0} → (A → Option A) → (A → Bool) → ℕ → A → Option A
nearest step goal zero x = None
nearest step goal (suc n) x = goal_or goal (nearest step goal n) (step x)
