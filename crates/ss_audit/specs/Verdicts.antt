-- The verdict on logs: that they are sound, or the first place where they aren't.
use Rattle.std.specs.Prelude.{◌≡◌, ◌≤◌, ◌+◌, ◌-◌, ◌^◌, ◌++◌, ◌∷◌, ℕ, List, Bool, true, false, length, take, min, sum_by}
use Rattle.std.specs.Prelude.{Option, option_map, IfSome}
use Rattle.std.specs.Option.{option_map_or}
use Rattle.std.specs.List.Sorted.{IsStrictlyIncreasing}
use Rattle.ss_bso.specs.declared.account.Plain.{Plain}
use Rattle.ss_bso.specs.Validity.{IsValid}
use Rattle.ss_laws.specs.Journal.{Journal}
use Rattle.ss_audit.specs.declared.verdict.Verdict.{Verdict}
use Rattle.ss_audit.specs.declared.verdict.Verdict.TheVariants.{Yes, No}
use Rattle.ss_audit.specs.declared.verdict.Why.{Why}
use Rattle.ss_audit.specs.declared.verdict.Why.TheVariants as why
use Rattle.ss_audit.specs.Sound.{AreSound, AreWithin, GoesOn, IsSoundLog, closing_of, last_of, tickets_of}

-- the account that the last of some logs leaves, where there is one
abbrev pub last_closing : List Journal → Option Plain
last_closing logs = option_map closing_of (last_of logs)

-- an opening goes on from a closing, where there is one
abbrev pub GoesOnFrom : Option Plain → Plain → Type 0
GoesOnFrom closing opening = IfSome closing (λ account. GoesOn account opening)

-- a log that begins from a closing is sound before one of its entries, counted from 1
pub record IsSoundBefore (closing : Option Plain) (log : Journal) (entry : ℕ) : Type 0 where
  pub some : 1 ≤ entry
  pub there : entry ≤ length log.entries
  pub goes_on : GoesOnFrom closing log.opening
  pub sound : IsSoundLog (record log { entries = take (entry - 1) log.entries })

-- The first place of a log that begins from a closing at which it isn't sound, and why: its opening isn't valid; or it doesn't go on
-- from the closing; or else it is the first entry with which the tickets don't rise, or with which they do and the limits are passed
abbrev pub FailsAt : Option Plain → Journal → ℕ → Why → Type 0
FailsAt closing log entry why.Opening = (entry ≡ 0) × ¬ IsValid log.opening
FailsAt closing log entry why.Follows = (entry ≡ 0) × IsValid log.opening × ¬ GoesOnFrom closing log.opening
FailsAt closing log entry why.Ticket = IsSoundBefore closing log entry × ¬ IsStrictlyIncreasing (tickets_of (take entry log.entries))
FailsAt closing log entry why.Limits =
    IsSoundBefore closing log entry × IsStrictlyIncreasing (tickets_of (take entry log.entries)) × ¬ AreWithin log.most (take entry log.entries)

-- the first place, in order of logs, counted from 1, at which logs aren't sound
pub record IsFirstFault (logs : List Journal) (number entry : ℕ) (reason : Why) : Type 0 where
  pub before : List Journal
  pub log : Journal
  pub later : List Journal
  pub logs_are : logs ≡ before ++ log ∷ later
  pub number_is : number ≡ length before + 1
  pub sound : AreSound before
  pub fails : FailsAt (last_closing before) log entry reason

-- the store's time of the account that the last of some logs leaves, and 0 of none
abbrev pub last_store : List Journal → ℕ
last_store logs = option_map_or (λ account. account.store) (last_closing logs) 0

-- how many entries logs have together, up to the greatest u64
abbrev pub entries_in : List Journal → ℕ
entries_in logs = min (sum_by (λ log. length log.entries) logs) (2 ^ 64 - 1)

abbrev pub IsVerdict : List Journal → Verdict → Type 0
IsVerdict logs (Yes number entries store) = AreSound logs × (number ≡ length logs) × (entries ≡ entries_in logs) × (store ≡ last_store logs)
IsVerdict logs (No number entry reason) = IsFirstFault logs number entry reason

-- whether a verdict says that logs are sound
abbrev pub is_yes : Verdict → Bool
is_yes (Yes number entries store) = true
is_yes (No number entry reason) = false
