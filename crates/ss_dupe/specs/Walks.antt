-- Walks along a step.
use Rattle.std.specs.Prelude.{◌≡◌, ℕ, zero, suc, Bool, true, false, ◌||◌, Option, Some, None}

-- there is a value, and it passes
abbrev pub passes : {A : Type 0} → (A → Bool) → Option A → Bool
passes p None = false
passes p (Some x) = p x

-- the walk of at most n steps from x comes to a goal
abbrev pub meets : {A : Type 0} → (A → Option A) → (A → Bool) → ℕ → A → Bool
meets step goal zero x = goal x
meets step goal (suc n) x = goal x || passes (meets step goal n) (step x)

-- the walk from x comes to a goal
abbrev pub Meets : {A : Type 0} → (A → Option A) → (A → Bool) → A → Type 0
Meets step goal x = (n : ℕ) × (meets step goal n x ≡ true)
