-- What runs of `rehearse` do (this project's).
use Rattle.std.specs.Prelude.{◌≡◌, ℕ, List}
use Rattle.ss_outside.specs.Told.{Meanings}
use Rattle.ss_words.specs.declared.commands.RehearseCommand.{RehearseCommand}
use Rattle.ss_words.specs.declared.commands.Command.TheVariants.{Rehearse}
use Rattle.ss_words.specs.Commands.{Asks}
use Rattle.ss_rehearse.specs.declared.endings.Ending.{Ending}
use Rattle.ss_rehearse.specs.declared.endings.Ending.TheVariants.{OtherWords, Memory}
use Rattle.ss_rehearse.specs.Endings.{Wrote}
use Rattle.ss_rehearse.specs.Rehearsals.{IsSummary}

-- What `rehearse` does: the summary of a rehearsal is written, at least in part; or no memory was found for it, and nothing is written
pub data Rehearses (items seed : ℕ) (ending : Ending) (output output' : Meanings) : Type 0 where
  written : (text : List ℕ) → IsSummary items seed text → Wrote text ending output output' → Rehearses items seed ending output output'
  no_room : ending ≡ Memory → output' ≡ output → Rehearses items seed ending output output'

-- What words that ask `rehearse` do, and how the run ends. Where they ask something else that is the end, and nothing is written; the same
-- where no memory was found for the words
pub data Runs (words : List (List ℕ)) (ending : Ending) (output output' : Meanings) : Type 0 where
  rehearses : (command : RehearseCommand) → Asks words (Rehearse command) → Rehearses command.items command.seed ending output output' → Runs words ending output output'
  asks_other : ((command : RehearseCommand) → Asks words (Rehearse command) → ⊥) → ending ≡ OtherWords → output' ≡ output → Runs words ending output output'
  no_memory : ending ≡ Memory → output' ≡ output → Runs words ending output output'
