-- What a run of the command `sync` does (this project's).
use Rattle.std.specs.Prelude.{◌≡◌, ℕ, List}
use Rattle.ss_outside.specs.Told.{Meanings}
use Rattle.ss_outside.specs.Causes.{Rose}
use Rattle.ss_words.specs.declared.commands.SyncCommand.{SyncCommand}
use Rattle.ss_words.specs.declared.commands.Command.TheVariants.{Sync}
use Rattle.ss_words.specs.Commands.{Asks}
use Rattle.ss_run_sync.specs.declared.endings.Ending.{Ending}
use Rattle.ss_run_sync.specs.declared.endings.Ending.TheVariants.{OtherWords, Failed}
use Rattle.ss_run_sync.specs.declared.endings.Trouble.TheVariants.{Memory}
use Rattle.ss_run_sync.specs.Endings.{line_of, Prints}
use Rattle.ss_run_sync.specs.Syncs.{Outside, Syncs}

-- Where the words ask a sync, it is made, its line is printed, and the run ends as it did. Where they ask none that is the end, and
-- nothing is done or printed. The same where no memory was found for the words, but that this is printed
pub data Runs (words : List (List ℕ)) (result : Ending) (old new : Outside) (output output' : Meanings) : Type 0 where
  syncs : (command : SyncCommand) (ending : Ending) → Asks words (Sync command) → Syncs command ending old new → Prints ending (line_of ending) result output output'
      → Runs words result old new output output'
  asks_nothing : ((command : SyncCommand) → Asks words (Sync command) → ⊥) → result ≡ OtherWords → new ≡ old → output' ≡ output → Runs words result old new output output'
  out_of_memory : new ≡ old → Prints (Failed Memory) (line_of (Failed Memory)) result output output' → Runs words result old new output output'

-- the counts that the statuses 2, 7 and 10 tell of
pub record Causes (status : ℕ) (old new : Outside) (output output' : Meanings) : Type 0 where
  pub wire : status ≡ 2 → Rose old.dial_faults new.dial_faults
  pub store : status ≡ 7 → Rose old.store_faults new.store_faults
  pub printing : status ≡ 10 → Rose output.write_faults output'.write_faults
