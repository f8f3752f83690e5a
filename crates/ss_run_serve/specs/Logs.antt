-- The logs that a server saves of its terms.
use Rattle.std.specs.Prelude.{◌≡◌, ◌≢◌, ℕ, List, [], ◌∷◌, ◌++◌, length, Option, Some, None, nat_le, codes, decimal}
use Rattle.std.specs.Prelude.{bytes_eq, if◌then◌else◌, ⊤}
use Rattle.std.specs.Option.{option_or}
use Rattle.std.specs.List.{flat_map}
use Rattle.ss_outside.specs.Causes.{Rose}
use Rattle.ss_outside.specs.Plans.{raised_count}
use Rattle.ss_laws.specs.Journal.{Journal}
use Rattle.ss_links.specs.Stores.{Files}
use Rattle.ss_logs.specs.Logs.{log_text}
use Rattle.ss_site.specs.Sites.{Counts, Term}
use Rattle.ss_words.specs.declared.commands.LogFolder.{LogFolder}
use Rattle.ss_run_serve.specs.declared.stop.Stop.{Stop}
use Rattle.ss_run_serve.specs.declared.stop.Stop.TheVariants as stops

-- the greatest log that is saved, in bytes
abbrev pub most_log_bytes : ℕ
most_log_bytes = 268435456

-- the name of an account's log in the term of a number: `<uid>-<number>`
abbrev pub log_name : ℕ → ℕ → List ℕ
log_name uid number = decimal uid ++ (codes "-" ++ decimal number)

-- a log's name, and its bytes
abbrev pub NamedLog : Type 0
NamedLog = List ℕ × List ℕ

-- what is saved of an account's journal in the term of a number: its log, unless it is too large
abbrev pub saved_of : ℕ → ℕ × Journal → List NamedLog
saved_of number journal = if nat_le (length (log_text journal.1)) most_log_bytes then (log_name journal.0 number, log_text journal.1) ∷ [] else []

-- the same of each journal of a term, in order
abbrev pub logs_of_term : ℕ → List (ℕ × Journal) → List NamedLog
logs_of_term number journals = flat_map (saved_of number) journals

-- the same of terms one after the other, the first of this number; a number that stands at the greatest u64 stays there
abbrev pub logs_of : {R : Type 0} → ℕ → List (Term R) → List NamedLog
logs_of number [] = []
logs_of number (term ∷ terms) = logs_of_term number term.journals ++ logs_of (raised_count number) terms

-- the bytes of the last log with this name
abbrev pub last_named : List ℕ → List NamedLog → Option (List ℕ)
last_named name [] = None
last_named name (log ∷ logs) = option_or (last_named name logs) (if bytes_eq log.0 name then Some log.1 else None)

-- These logs were saved, one after the other, where files are told: under the name of each stands the last with that name, and under
-- each other name what stood there before
abbrev pub AreSavedLogs : List NamedLog → Option Files → Option Files → Type 0
AreSavedLogs logs None new = new ≡ None
AreSavedLogs logs (Some old) new = (files : Files) × (new ≡ Some files) × ((name : List ℕ) → files name ≡ option_or (last_named name logs) (old name))

-- of these logs some that come first were saved, and no other
pub record ArePartlySaved (logs : List NamedLog) (old new : Option Files) : Type 0 where
  pub saved : List NamedLog
  pub rest : List NamedLog
  pub are : saved ++ rest ≡ logs
  pub files : AreSavedLogs saved old new

-- all of these logs were saved; where their store failed, or no memory was found, perhaps only some that come first
abbrev pub AreLoggedUntil : Stop → List NamedLog → Option Files → Option Files → Type 0
AreLoggedUntil stops.Logs logs old new = ArePartlySaved logs old new
AreLoggedUntil stops.Memory logs old new = ArePartlySaved logs old new
AreLoggedUntil _ logs old new = AreSavedLogs logs old new

-- the logs of these terms were saved, from the number that the command names on, where it names a folder; else the logs are as they were
abbrev pub AreLoggedAt : {R : Type 0} → Option LogFolder → Stop → List (Term R) → Option Files → Option Files → Type 0
AreLoggedAt None stop terms old new = new ≡ old
AreLoggedAt (Some folder) stop terms old new = AreLoggedUntil stop (logs_of folder.from terms) old new

-- after a term all of its logs were saved, or the server stops
abbrev pub AreLoggedOnce : Option Stop → List NamedLog → Option Files → Option Files → Type 0
AreLoggedOnce None logs old new = AreSavedLogs logs old new
AreLoggedOnce (Some stop) logs old new = AreLoggedUntil stop logs old new

-- a log wasn't saved, since the store failed, which counts that, or since no memory was found
abbrev pub IsWhyUnsaved : ℕ → Stop → Type 0
IsWhyUnsaved faults stops.Logs = faults ≢ 0
IsWhyUnsaved faults stops.Memory = ⊤
IsWhyUnsaved faults _ = ⊥

-- where a server stops since a log wasn't saved, the store has failed
abbrev pub HasCut : ℕ → Stop → Type 0
HasCut faults stops.Logs = faults ≢ 0
HasCut faults _ = ⊤

-- the same by a site's counts, once the store came back
abbrev pub LogsFailed : Counts → Counts → Stop → Type 0
LogsFailed old new stops.Logs = Rose old.faults new.faults
LogsFailed old new _ = ⊤
