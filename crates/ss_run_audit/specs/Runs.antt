-- What a run of `audit` does (this project's).
use Rattle.std.specs.Prelude.{◌≡◌, ◌⊎◌, ℕ, List, [], ◌∷◌, codes}
use Rattle.ss_outside.specs.Told.{Meanings}
use Rattle.ss_input.specs.declared.faults.InputFault.{InputFault}
use Rattle.ss_input.specs.Inputs.{IsUnread, IsWhole}
use Rattle.ss_laws.specs.Journal.{Journal}
use Rattle.ss_logs.specs.declared.faults.LogFault.{LogFault}
use Rattle.ss_logs.specs.Logs.{AreLogs, IsWhyNoLogs}
use Rattle.ss_audit.specs.declared.verdict.Verdict.{Verdict}
use Rattle.ss_audit.specs.Verdicts.{IsVerdict}
use Rattle.ss_run_audit.specs.declared.endings.Ending.{Ending}
use Rattle.ss_run_audit.specs.declared.endings.Ending.TheVariants.{OtherWords}
use Rattle.ss_run_audit.specs.Endings.{Wrote, refused_end, told_end, unread_end}
use Rattle.ss_run_audit.specs.Tellings.{verdict_text}

-- the text is that of logs, and this is the verdict on them
pub record IsAuditOf (text : List ℕ) (verdict : Verdict) : Type 0 where
  pub logs : List Journal
  pub are : AreLogs text logs
  pub verdict_is : IsVerdict logs verdict

-- The input is read whole, and the verdict on its logs is written; or it isn't logs, or not read whole. Nothing is written but the
-- verdict
pub data Audits (ending : Ending) (input input' output output' : Meanings) : Type 0 where
  told : (text : List ℕ) (verdict : Verdict) → IsWhole text input input' → IsAuditOf text verdict → Wrote (verdict_text verdict) (told_end verdict) ending output output' → Audits ending input input' output output'
  refused : (text : List ℕ) (fault : LogFault) → IsWhole text input input' → IsWhyNoLogs text fault → ending ≡ refused_end fault → output' ≡ output → Audits ending input input' output output'
  unread : (fault : InputFault) → IsUnread fault input input' → ending ≡ unread_end fault → output' ≡ output → Audits ending input input' output output'

-- the words are the name of the command, and behind it `--` or nothing
abbrev pub Asks : List (List ℕ) → Type 0
Asks words = (words ≡ codes "audit" ∷ []) ⊎ (words ≡ codes "audit" ∷ codes "--" ∷ [])

-- What words that ask for an audit do, and how the run ends. Where they ask for none that is the end, and nothing is read or written
pub data Runs (words : List (List ℕ)) (ending : Ending) (input input' output output' : Meanings) : Type 0 where
  audits : Asks words → Audits ending input input' output output' → Runs words ending input input' output output'
  asks_nothing : (Asks words → ⊥) → ending ≡ OtherWords → input' ≡ input → output' ≡ output → Runs words ending input input' output output'
