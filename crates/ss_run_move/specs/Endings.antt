-- How a run ends: its status, and what a fault that is found makes of it (this project's).
use Rattle.std.specs.Prelude.{ℕ, List}
use Rattle.ss_outside.specs.Told.{Meanings}
use Rattle.ss_outside.specs.Causes.{WritesAll, WritesFront}
use Rattle.ss_account.specs.declared.faults.OpenFault.{OpenFault}
use Rattle.ss_account.specs.declared.faults.OpenFault.TheVariants as opening
use Rattle.ss_dump.specs.declared.faults.DumpFault.{DumpFault}
use Rattle.ss_dump.specs.declared.faults.DumpFault.TheVariants as dumped
use Rattle.ss_dump.specs.declared.faults.RefillFault.{RefillFault}
use Rattle.ss_dump.specs.declared.faults.RefillFault.TheVariants as refilled
use Rattle.ss_site.specs.declared.site.NoKeeper.{NoKeeper}
use Rattle.ss_site.specs.declared.site.NoKeeper.TheVariants as missing
use Rattle.ss_run_move.specs.declared.endings.Ending.{Ending}
use Rattle.ss_run_move.specs.declared.endings.Ending.TheVariants.{Done, OtherWords, Site, Keeper, Output, Damaged}
use Rattle.ss_run_move.specs.declared.endings.Ending.TheVariants.{NoAccount, NotFresh, NoDump, TooLong, Input, Memory}

abbrev pub status_of : Ending → ℕ
status_of Done = 0
status_of OtherWords = 1
status_of Site = 2
status_of Keeper = 2
status_of Output = 3
status_of Damaged = 4
status_of (NoAccount fault) = 4
status_of NotFresh = 4
status_of (NoDump fault) = 5
status_of TooLong = 6
status_of Input = 7
status_of Memory = 8

-- how a run ends for which a site gives no keeper
abbrev pub at_site : NoKeeper → Ending
at_site missing.Fault = Site
at_site missing.Damaged = Damaged
at_site missing.Memory = Memory

-- how a run ends for which no account is opened
abbrev pub at_account : OpenFault → Ending
at_account opening.Keeper = Keeper
at_account opening.Memory = Memory
at_account (opening.BadCollection n) = NoAccount (opening.BadCollection n)
at_account (opening.BadRow n) = NoAccount (opening.BadRow n)
at_account (opening.BadBatch n) = NoAccount (opening.BadBatch n)

-- how a run ends for which no keeper is filled
abbrev pub at_keeper : RefillFault → Ending
at_keeper refilled.NotFresh = NotFresh
at_keeper refilled.Keeper = Keeper
at_keeper refilled.Memory = Memory

-- how a run ends whose input is refused as a dump
abbrev pub at_dump : DumpFault → Ending
at_dump (dumped.BadLine n) = NoDump (dumped.BadLine n)
at_dump (dumped.BadDigest stated found) = NoDump (dumped.BadDigest stated found)
at_dump (dumped.BadCollection n) = NoDump (dumped.BadCollection n)
at_dump (dumped.BadRow n) = NoDump (dumped.BadRow n)
at_dump (dumped.BadBatch n) = NoDump (dumped.BadBatch n)
at_dump dumped.Memory = Memory

-- All of a text was written; or a write failed, and a front of it was written
abbrev pub Wrote : List ℕ → Ending → Meanings → Meanings → Type 0
Wrote text Done output output' = WritesAll text output output'
Wrote text Output output output' = WritesFront text output output'
Wrote text ending output output' = ⊥
