-- Parts of a dump and of a restore, for private clauses.
use Rattle.std.specs.Prelude.{◌≡◌, ℕ, List, Option, Result, Ok, Err, IfSome, ⊤}
use Rattle.ss_outside.specs.Told.{Meanings}
use Rattle.ss_outside.specs.Causes.{Rose}
use Rattle.ss_bso.specs.declared.changes.Kept.{Kept}
use Rattle.ss_account.specs.declared.faults.OpenFault.{OpenFault}
use Rattle.ss_account.specs.declared.faults.OpenFault.TheVariants.{BadCollection, BadRow, BadBatch}
use Rattle.ss_account.specs.declared.faults.OpenFault.TheVariants.{Keeper as KeeperFault, Memory as NoRoom}
use Rattle.ss_account.specs.Opening.{IsFaultOf}
use Rattle.ss_dump.specs.declared.faults.DumpFault.{DumpFault}
use Rattle.ss_dump.specs.Undumped.{IsDumpOf, IsWhyNoDump}
use Rattle.ss_site.specs.Sites.{Counts}
use Rattle.ss_run_move.specs.declared.endings.Ending.{Ending}
use Rattle.ss_run_move.specs.declared.endings.Ending.TheVariants.{Keeper, NoAccount, Memory}
use Rattle.ss_run_move.specs.Endings.{at_dump}
use Rattle.ss_run_move.specs.Inputs.{IsUnread, IsWhole}
use Rattle.ss_run_move.specs.Moves.{CountsEnding}

-- what a site counts while a value is found, or a run ends so
abbrev pub CountsResult : {T : Type 0} → Result T Ending → Counts → Counts → Type 0
CountsResult (Ok value) old new = new ≡ old
CountsResult (Err ending) old new = CountsEnding ending old new

-- a keeper failed where that is why no value is found, and else not
abbrev pub KeeperCounts : {T : Type 0} → Result T Ending → ℕ → ℕ → Type 0
KeeperCounts (Err Keeper) before now = Rose before now
KeeperCounts result before now = now ≡ before

-- no account can be opened from what a keeper tells
abbrev pub HoldsNoAccount : Option Kept → OpenFault → Type 0
HoldsNoAccount told (BadCollection n) = IfSome told (λ kept. IsFaultOf kept (BadCollection n))
HoldsNoAccount told (BadRow n) = IfSome told (λ kept. IsFaultOf kept (BadRow n))
HoldsNoAccount told (BadBatch n) = IfSome told (λ kept. IsFaultOf kept (BadBatch n))
HoldsNoAccount told KeeperFault = ⊥
HoldsNoAccount told NoRoom = ⊥

-- why no dump is made from a keeper
abbrev pub HoldsNone : Option Kept → Ending → Type 0
HoldsNone told Keeper = ⊤
HoldsNone told (NoAccount fault) = HoldsNoAccount told fault
HoldsNone told Memory = ⊤
HoldsNone told ending = ⊥

-- the input is the dump of this
pub record IsReadAs (told : Kept) (input input' : Meanings) : Type 0 where
  pub text : List ℕ
  pub whole : IsWhole text input input'
  pub dump : IsDumpOf text told

-- why the input tells no account: it isn't read whole, or it is no dump
pub data IsUntold (ending : Ending) (input input' : Meanings) : Type 0 where
  not_whole : IsUnread ending input input' → IsUntold ending input input'
  no_dump : (text : List ℕ) (fault : DumpFault) → IsWhole text input input' → IsWhyNoDump text fault → ending ≡ at_dump fault → IsUntold ending input input'
