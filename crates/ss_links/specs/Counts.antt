-- Counts that rise, and stop at the greatest u64.
use Rattle.std.specs.Prelude.{ℕ, ◌≤◌, ◌+◌, ◌-◌, ◌^◌, min}

-- the count rose by n; one that stands at the greatest u64 counts as risen, by any number
pub record RoseBy (n before now : ℕ) : Type 0 where
  pub later : before ≤ now
  pub risen : min (before + n) (2 ^ 64 - 1) ≤ now
  pub most : now ≤ before + n
