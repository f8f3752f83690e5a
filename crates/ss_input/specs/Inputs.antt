-- An input that is read whole.
use Rattle.std.specs.Prelude.{◌≡◌, ◌≤◌, ◌<◌, ◌++◌, ℕ, List, length}
use Rattle.ss_outside.specs.Told.{Meanings, HasRead, IsUsedUp}
use Rattle.ss_outside.specs.Causes.{Rose}
use Rattle.ss_input.specs.declared.faults.InputFault.{InputFault}
use Rattle.ss_input.specs.declared.faults.InputFault.TheVariants.{Failed, TooLong, Memory}

-- the most bytes of an input
abbrev pub most : ℕ
most = 268435456

-- this text was read, to the input's end
pub record IsWhole (text : List ℕ) (old new : Meanings) : Type 0 where
  pub read : HasRead text old new
  pub ended : IsUsedUp new
  pub few : length text ≤ most
  pub faultless : new.read_faults ≡ old.read_faults

-- so much was read, and no read failed
pub record IsPart (got : List ℕ) (old new : Meanings) : Type 0 where
  pub read : HasRead got old new
  pub faultless : new.read_faults ≡ old.read_faults

-- Why an input was not read whole: a read failed, it has too many bytes, or no memory was found for them
abbrev pub IsUnread : InputFault → Meanings → Meanings → Type 0
IsUnread Failed old new = (got : List ℕ) × HasRead got old new × Rose old.read_faults new.read_faults
IsUnread TooLong old new = (got : List ℕ) × IsPart got old new × (most < length got)
IsUnread Memory old new = (got : List ℕ) × IsPart got old new

-- a read brought so many bytes, which stand behind the text; none at the input's end
pub record Gets (before now : List ℕ) (count : ℕ) (old new : Meanings) : Type 0 where
  pub got : List ℕ
  pub text_is : now ≡ before ++ got
  pub count_is : count ≡ length got
  pub part : IsPart got old new
  pub ended : count ≡ 0 → IsUsedUp new
