-- What runs of `edit` and `merge` do (this project's).
use Rattle.std.specs.Prelude.{◌≡◌, ℕ, List, Option, Some, None, IfSome, true, false}
use Rattle.ss_outside.specs.Told.{Meanings, TakesFirst}
use Rattle.ss_device_file.specs.Fresh.{fresh_text}
use Rattle.ss_input.specs.declared.faults.InputFault.{InputFault}
use Rattle.ss_input.specs.Inputs.{IsUnread, IsWhole}
use Rattle.ss_words.specs.declared.commands.EditCommand.{EditCommand}
use Rattle.ss_words.specs.declared.commands.Command.TheVariants.{Edit, Merge}
use Rattle.ss_words.specs.Commands.{Asks}
use Rattle.ss_run_edit.specs.declared.changes.Change.{Change}
use Rattle.ss_run_edit.specs.declared.endings.Ending.{Ending}
use Rattle.ss_run_edit.specs.declared.endings.Ending.TheVariants.{OtherWords, Unfit, Memory}
use Rattle.ss_run_edit.specs.Endings.{Wrote, ending_of}
use Rattle.ss_run_edit.specs.Changes.{IsEditOf, RefusesEdit, change_of, fits}
use Rattle.ss_run_edit.specs.Merging.{IsMergeOf, RefusesMerge}
use Rattle.ss_outside.specs.Told.{TouchesNothing}

-- An input is turned into an output: it is read whole, and what is made of its text is written; or nothing is made of it, for a
-- cause in the text; or it is not read whole. Nothing is written but what is made of the whole text
pub data Turns (Makes : List ℕ → List ℕ → Type 0) (Refuses : List ℕ → Ending → Type 0) (ending : Ending) (input input' output output' : Meanings) : Type 0 where
  written : (text out : List ℕ) → IsWhole text input input' → Makes text out → Wrote out ending output output' → Turns Makes Refuses ending input input' output output'
  refused : (text : List ℕ) → IsWhole text input input' → Refuses text ending → output' ≡ output → Turns Makes Refuses ending input input' output output'
  unread : (fault : InputFault) → ending ≡ ending_of fault → IsUnread fault input input' → output' ≡ output → Turns Makes Refuses ending input input' output output'

-- the time of a change: the one that the words say, or one reading of the clock
abbrev pub IsTime : Option ℕ → ℕ → Option (List ℕ) → Option (List ℕ) → Type 0
IsTime (Some at) now coming coming' = (now ≡ at) × (coming' ≡ coming)
IsTime None now coming coming' = TakesFirst coming coming' now

-- the seven lines of a new device were written, at least in part; or no memory was found for them, and nothing was written
abbrev pub WritesNew : Ending → Meanings → Meanings → Type 0
WritesNew Memory output output' = output' ≡ output
WritesNew ending output output' = Wrote fresh_text ending output output'

-- What `edit` does. A new device is written, and nothing is read; or the device of the input is changed at one time. Where a new item
-- isn't fit nothing is done, and the same where no memory was found for it
pub data Edits (command : EditCommand) (ending : Ending) (input input' output output' : Meanings) (coming coming' : Option (List ℕ)) : Type 0 where
  makes_new : change_of command.action ≡ None → WritesNew ending output output' → input' ≡ input → coming' ≡ coming
      → Edits command ending input input' output output' coming coming'
  changes : (change : Change) (now : ℕ) → change_of command.action ≡ Some change → fits (Some change) ≡ true → IsTime command.at now coming coming'
      → Turns (IsEditOf change now) (RefusesEdit change) ending input input' output output' → Edits command ending input input' output output' coming coming'
  unfit : fits (change_of command.action) ≡ false → ending ≡ Unfit → TouchesNothing input input' output output' coming coming' → Edits command ending input input' output output' coming coming'
  out_of_memory : ending ≡ Memory → TouchesNothing input input' output output' coming coming' → Edits command ending input input' output output' coming coming'

-- What `merge` does: the merge of the input's device with its remote rows is told
abbrev pub Merges : Ending → Meanings → Meanings → Meanings → Meanings → Type 0
Merges ending input input' output output' = Turns IsMergeOf RefusesMerge ending input input' output output'

-- What words that ask `edit` or `merge` do, and how the run ends. Where they ask neither that is the end, and nothing is done; the same
-- where no memory was found for the words
pub data Runs {C : Type 0} (words : List (List ℕ)) (ending : Ending) (input input' output output' : Meanings) (coming coming' : Option (List ℕ)) (clock clock' : C) : Type 0 where
  edits : (command : EditCommand) → Asks words (Edit command) → Edits command ending input input' output output' coming coming' → IfSome command.at (λ at. clock' ≡ clock)
      → Runs words ending input input' output output' coming coming' clock clock'
  merges : Asks words Merge → Merges ending input input' output output' → coming' ≡ coming → clock' ≡ clock → Runs words ending input input' output output' coming coming' clock clock'
  asks_neither : ((command : EditCommand) → Asks words (Edit command) → ⊥) → (Asks words Merge → ⊥) → ending ≡ OtherWords → TouchesNothing input input' output output' coming coming' → clock' ≡ clock
      → Runs words ending input input' output output' coming coming' clock clock'
  no_memory : ending ≡ Memory → TouchesNothing input input' output output' coming coming' → clock' ≡ clock → Runs words ending input input' output output' coming coming' clock clock'
