-- An input that is read whole, as a dump's text (the limit is this project's).
use Rattle.std.specs.Prelude.{◌≡◌, ◌≤◌, ◌<◌, ℕ, List, length}
use Rattle.ss_outside.specs.Told.{Meanings, HasRead, IsUsedUp}
use Rattle.ss_outside.specs.Causes.{Rose}
use Rattle.ss_input.specs.Inputs.{IsPart}
use Rattle.ss_run_move.specs.declared.endings.Ending.{Ending}
use Rattle.ss_run_move.specs.declared.endings.Ending.TheVariants.{Input, TooLong, Memory}

-- the most bytes of a dump that is read
abbrev pub most_bytes : ℕ
most_bytes = 1073741824

-- this text was read, to the input's end
pub record IsWhole (text : List ℕ) (old new : Meanings) : Type 0 where
  pub read : HasRead text old new
  pub ended : IsUsedUp new
  pub few : length text ≤ most_bytes
  pub faultless : new.read_faults ≡ old.read_faults

-- why an input was not read whole: a read failed, it has too many bytes, or no memory was found for them
abbrev pub IsUnread : Ending → Meanings → Meanings → Type 0
IsUnread Input old new = (got : List ℕ) × HasRead got old new × Rose old.read_faults new.read_faults
IsUnread TooLong old new = (got : List ℕ) × IsPart got old new × (most_bytes < length got)
IsUnread Memory old new = (got : List ℕ) × IsPart got old new
IsUnread ending old new = ⊥
