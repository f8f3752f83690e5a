-- What a keeper tells, and why it refuses.
use Rattle.std.specs.Prelude.{◌≡◌, ◌≤◌, ℕ, Option, Some, Result, Err}
use Rattle.std.specs.Option.{option_map}
use Rattle.ss_outside.specs.Causes.{Rose}
use Rattle.ss_bso.specs.declared.changes.Kept.{Kept}
use Rattle.ss_bso.specs.declared.changes.Changes.{Changes}
use Rattle.ss_bso.specs.Changes.{kept_after_changes}
use Rattle.ss_keeper.specs.declared.faults.KeepFault.{KeepFault}
use Rattle.ss_keeper.specs.declared.faults.KeepFault.TheVariants.{Fault}

-- where a keeper tells what it holds, it is this
abbrev pub TellsKept : Kept → Option Kept → Type 0
TellsKept kept told = (x : Kept) → told ≡ Some x → kept ≡ x

-- what is told after changes; what isn't told stays untold
abbrev pub changed_by : Changes → Option Kept → Option Kept
changed_by changes told = option_map (λ kept. kept_after_changes kept changes) told

-- the count of faults doesn't fall, it rose where a fault is answered, and it stands where none is
pub record HasCause {T : Type 0} (before now : ℕ) (result : Result T KeepFault) : Type 0 where
  pub later : before ≤ now
  pub fault : result ≡ Err Fault → Rose before now
  pub quiet : (result ≡ Err Fault → ⊥) → now ≡ before
