-- What a run of the command that answers messages does.
use Rattle.std.specs.Prelude.{◌≡◌, ℕ, List, Option, IfSome}
use Rattle.ss_outside.specs.Told.{Meanings}
use Rattle.ss_run_answer.specs.declared.endings.Ending.{Ending}
use Rattle.ss_run_answer.specs.declared.endings.Ending.TheVariants.{OtherWords, Memory}
use Rattle.ss_run_answer.specs.Turns.{AnswersInput}
use Rattle.ss_run_answer.specs.Words.{AsksAnswer}
use Rattle.ss_outside.specs.Told.{TouchesNothing}

-- Where the words ask to answer for an account, it is answered, and the run ends so; with a first reading of the clock the one that is
-- handed in isn't read. Where they ask something else or nothing, that is the end, and nothing is read or written. The same where no
-- memory was found for the words.
pub data Runs {C : Type 0} (words : List (List ℕ)) (ending : Ending) (input input' output output' : Meanings) (coming coming' : Option (List ℕ)) (clock clock' : C) : Type 0 where
  answers : (uid : ℕ) (at : Option ℕ) → AsksAnswer words uid at → AnswersInput uid at ending input input' output output' coming coming' → IfSome at (λ first. clock' ≡ clock)
      → Runs words ending input input' output output' coming coming' clock clock'
  asks_nothing : ((uid : ℕ) (at : Option ℕ) → AsksAnswer words uid at → ⊥) → ending ≡ OtherWords → TouchesNothing input input' output output' coming coming' → clock' ≡ clock
      → Runs words ending input input' output output' coming coming' clock clock'
  out_of_memory : ending ≡ Memory → TouchesNothing input input' output output' coming coming' → clock' ≡ clock
      → Runs words ending input input' output output' coming coming' clock clock'
