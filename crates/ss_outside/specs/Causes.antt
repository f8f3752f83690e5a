-- How a count of faults tells the cause of an answer.
use Rattle.std.specs.Prelude.{◌≡◌, ◌≤◌, ◌<◌, ◌+◌, ◌-◌, ◌^◌, ◌++◌, ℕ, min, List, Result, Ok, Err}
use Rattle.ss_outside.specs.Told.{Meanings, HasWritten}

-- the count rose; one that stands at the greatest u64 counts as risen
pub record Rose (before now : ℕ) : Type 0 where
  pub later : before ≤ now
  pub risen : min (before + 1) (2 ^ 64 - 1) ≤ now

-- the count rises in a call that answers a fault, and in no other
abbrev pub RisesOnErr : {T E : Type 0} → ℕ → ℕ → Result T E → Type 0
RisesOnErr before now (Ok value) = now ≡ before
RisesOnErr before now (Err fault) = Rose before now

-- the same of a write of a piece of this size: that it takes nothing of a piece that isn't empty is a fault too
abbrev pub RisesOnRefusal : {E : Type 0} → ℕ → ℕ → ℕ → Result ℕ E → Type 0
RisesOnRefusal size before now (Ok n) =
    (n ≡ 0 → 0 < size → Rose before now) × (0 < n → now ≡ before) × (size ≡ 0 → now ≡ before)
RisesOnRefusal size before now (Err fault) = Rose before now

-- all of a text was written
abbrev pub WritesAll : List ℕ → Meanings → Meanings → Type 0
WritesAll text output output' = HasWritten text output output' × (output'.write_faults ≡ output.write_faults)

-- a write failed, and a front of the text was written
abbrev pub WritesFront : List ℕ → Meanings → Meanings → Type 0
WritesFront text output output' =
    (sent : List ℕ) × (rest : List ℕ) × (text ≡ sent ++ rest) × HasWritten sent output output' × Rose output.write_faults output'.write_faults
