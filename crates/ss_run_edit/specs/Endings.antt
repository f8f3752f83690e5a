-- How a run ends: its status, what is read and what is written (this project's).
use Rattle.std.specs.Prelude.{ℕ, List}
use Rattle.ss_outside.specs.Told.{Meanings}
use Rattle.ss_outside.specs.Causes.{WritesAll, WritesFront}
use Rattle.ss_input.specs.declared.faults.InputFault.{InputFault}
use Rattle.ss_input.specs.declared.faults.InputFault.TheVariants as fault
use Rattle.ss_run_edit.specs.declared.endings.Ending.{Ending}
use Rattle.ss_run_edit.specs.declared.endings.Ending.TheVariants.{Done, OtherWords, Unfit, Input, Output, Cut}
use Rattle.ss_run_edit.specs.declared.endings.Ending.TheVariants.{BadLine, BadTree, Refused, TooLong, Memory}

abbrev pub status_of : Ending → ℕ
status_of Done = 0
status_of OtherWords = 1
status_of Unfit = 1
status_of Input = 2
status_of Output = 3
status_of (Cut n) = 4
status_of (BadLine n) = 5
status_of (BadTree id) = 5
status_of (Refused fault) = 5
status_of TooLong = 6
status_of Memory = 8

-- how a run ends whose input is not read whole
abbrev pub ending_of : InputFault → Ending
ending_of fault.Failed = Input
ending_of fault.TooLong = TooLong
ending_of fault.Memory = Memory

-- All of a text was written; or a write failed, and a front of it was written
abbrev pub Wrote : List ℕ → Ending → Meanings → Meanings → Type 0
Wrote text Done output output' = WritesAll text output output'
Wrote text Output output output' = WritesFront text output output'
Wrote text ending output output' = ⊥
