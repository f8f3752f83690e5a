-- How a run ends: its status, and what is written (this project's).
use Rattle.std.specs.Prelude.{ℕ, List}
use Rattle.ss_outside.specs.Told.{Meanings}
use Rattle.ss_outside.specs.Causes.{WritesAll, WritesFront}
use Rattle.ss_rehearse.specs.declared.endings.Ending.{Ending}
use Rattle.ss_rehearse.specs.declared.endings.Ending.TheVariants.{Done, OtherWords, Output, Memory}

abbrev pub status_of : Ending → ℕ
status_of Done = 0
status_of OtherWords = 1
status_of Output = 3
status_of Memory = 8

-- All of a text was written; or a write failed, and a front of it was written
abbrev pub Wrote : List ℕ → Ending → Meanings → Meanings → Type 0
Wrote text Done output output' = WritesAll text output output'
Wrote text Output output output' = WritesFront text output output'
Wrote text ending output output' = ⊥
