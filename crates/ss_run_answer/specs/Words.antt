-- What the words of the command that answers messages ask, and the statuses.
use Rattle.std.specs.Prelude.{ℕ, List, Option}
use Rattle.ss_words.specs.Commands.{Asks}
use Rattle.ss_words.specs.declared.commands.Command.TheVariants.{Answer}
use Rattle.ss_run_answer.specs.declared.endings.Ending.{Ending}
use Rattle.ss_run_answer.specs.declared.endings.Ending.TheVariants as endings

-- the words ask to answer for this account, from this first reading of the clock on, or by the clock that is handed in
abbrev pub AsksAnswer : List (List ℕ) → ℕ → Option ℕ → Type 0
AsksAnswer words uid at = Asks words (Answer (record { uid = uid; at = at }))

-- the status of a run by its ending
abbrev pub status_of : Ending → ℕ
status_of endings.End = 0
status_of endings.Asked = 0
status_of endings.OtherWords = 1
status_of endings.Input = 2
status_of endings.Output = 3
status_of endings.Cut = 4
status_of endings.Refused = 5
status_of endings.Count = 6
status_of endings.Memory = 8
