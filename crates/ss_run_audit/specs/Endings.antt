-- How a run ends: its status, and what is written (this project's).
use Rattle.std.specs.Prelude.{◌≡◌, ℕ, List, ◌++◌}
use Rattle.ss_outside.specs.Told.{Meanings, HasWritten}
use Rattle.ss_outside.specs.Causes.{Rose}
use Rattle.ss_input.specs.declared.faults.InputFault.{InputFault}
use Rattle.ss_input.specs.declared.faults.InputFault.TheVariants as input
use Rattle.ss_logs.specs.declared.faults.LogFault.{LogFault}
use Rattle.ss_logs.specs.declared.faults.LogFault.TheVariants as log
use Rattle.ss_audit.specs.declared.verdict.Verdict.{Verdict}
use Rattle.ss_audit.specs.declared.verdict.Verdict.TheVariants.{Yes, No}
use Rattle.ss_run_audit.specs.declared.endings.Ending.{Ending}
use Rattle.ss_run_audit.specs.declared.endings.Ending.TheVariants.{Sound, OtherWords, Input, Output, BadLine}
use Rattle.ss_run_audit.specs.declared.endings.Ending.TheVariants.{TooLong, Unsound, Memory}

abbrev pub status_of : Ending → ℕ
status_of Sound = 0
status_of OtherWords = 1
status_of Input = 2
status_of Output = 3
status_of (BadLine n) = 5
status_of TooLong = 6
status_of Unsound = 7
status_of Memory = 8

-- how a run ends whose input is not read whole
abbrev pub unread_end : InputFault → Ending
unread_end input.Failed = Input
unread_end input.TooLong = TooLong
unread_end input.Memory = Memory

-- how a run ends whose input isn't logs
abbrev pub refused_end : LogFault → Ending
refused_end (log.BadLine n) = BadLine n
refused_end log.Memory = Memory

-- how a run ends that has told its verdict
abbrev pub told_end : Verdict → Ending
told_end (Yes logs entries store) = Sound
told_end (No log entry why) = Unsound

-- All of a text was written, and the run ends so; or a write failed, and a front of it was written
pub data Wrote (text : List ℕ) (end ending : Ending) (output output' : Meanings) : Type 0 where
  whole : HasWritten text output output' → output'.write_faults ≡ output.write_faults → ending ≡ end → Wrote text end ending output output'
  partly : (sent rest : List ℕ) → text ≡ sent ++ rest → HasWritten sent output output' → Rose output.write_faults output'.write_faults → ending ≡ Output → Wrote text end ending output output'
