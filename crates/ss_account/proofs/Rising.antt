-- A count that is 0 has not risen.
use Rattle.std.proofs.Common.{◌≡◌, ℕ, arith}
use Rattle.ss_outside.specs.Causes.{Rose}

-- a count that stands at 0 never rose
pub never-rose : {before now : ℕ} → now ≡ 0 → Rose before now → ⊥
never-rose {before} {now} stands rose = let risen = rose.risen in absurd (omega arith)
