-- Logs: the text of a journal, and of journals one behind the other (the format is this project's).
use Rattle.std.specs.Prelude.{◌≡◌, ◌≢◌, ◌≤◌, ◌<◌, ◌^◌, ◌+◌, ◌++◌, ◌∷◌, [], ℕ, List, map, length, ⊤}
use Rattle.std.specs.List.{AllByRecursion, flat_map}
use Rattle.ss_text.specs.Time.{last_stamp}
use Rattle.ss_bso.specs.declared.account.Plain.{Plain}
use Rattle.ss_bso.specs.declared.changes.Kept.{Kept}
use Rattle.ss_bso.specs.Changes.{kept_of}
use Rattle.ss_laws.specs.Journal.{Journal}
use Rattle.ss_lines.specs.Lines.{IsLine}
use Rattle.ss_lines.specs.declared.lines.Line.TheVariants.{End}
use Rattle.ss_dump.specs.Dumps.{account_lines, dump_text, in_order}
use Rattle.ss_dump.specs.Fronts.{IsFormedInOrder, dump_lines}
use Rattle.ss_log_lines.specs.LogLines.{IsCall, log_line_text}
use Rattle.ss_log_lines.specs.declared.lines.LogLine.{LogLine}
use Rattle.ss_log_lines.specs.declared.lines.LogLine.TheVariants.{Log, Account, Call}
use Rattle.ss_logs.specs.declared.faults.LogFault.{LogFault}
use Rattle.ss_logs.specs.declared.faults.LogFault.TheVariants.{BadLine, Memory}

-- ---- the text of a journal

-- the text of lines
abbrev pub text_of : List LogLine → List ℕ
text_of lines = flat_map log_line_text lines

-- a line for each entry
abbrev pub call_lines : Journal → List LogLine
call_lines journal = map (λ entry. Call entry) journal.entries

-- the log of a journal: the moment of its opening and the most entries that it may have, the dump of its opening, its entries,
-- oldest first, and the end
unfoldable pub log_text : Journal → List ℕ
log_text journal =
    log_line_text (Log journal.opening.moment journal.most)
    ++ (dump_text (kept_of journal.opening) ++ (text_of (call_lines journal) ++ log_line_text (Account End)))

-- the logs of journals, one behind the other
abbrev pub logs_text : List Journal → List ℕ
logs_text journals = flat_map log_text journals

-- ---- what a log tells

-- the account of this moment of which this is kept
abbrev pub account_at : ℕ → Kept → Plain
account_at moment kept = record {
  rows = kept.rows;
  collections = kept.collections;
  store = kept.store;
  last_delete = kept.last_delete;
  moment = moment;
  counter = kept.counter;
  batches = kept.batches;
}

-- the journal that the log of a journal tells: the lists of its opening are in order
abbrev pub log_of : Journal → Journal
log_of journal = record journal { opening = account_at journal.opening.moment (in_order (kept_of journal.opening)) }

-- each value of a journal has the form of its type, and each request is within the limits of one
pub record HasJournalForm (journal : Journal) : Type 0 where
  pub moment : journal.opening.moment ≤ last_stamp
  pub most : journal.most < 2 ^ 32
  pub opening : AllByRecursion IsLine (account_lines (kept_of journal.opening))
  pub entries : AllByRecursion IsCall journal.entries

-- a log as it is read: each value has the form of its type, the lists of its opening are in order, and each request is within the
-- limits of one. Its opening need not be valid
pub record IsLog (log : Journal) : Type 0 where
  pub moment : log.opening.moment ≤ last_stamp
  pub most : log.most < 2 ^ 32
  pub opening : IsFormedInOrder (kept_of log.opening)
  pub entries : AllByRecursion IsCall log.entries

-- the text is that of these logs, one behind the other
pub record AreLogs (text : List ℕ) (logs : List Journal) : Type 0 where
  pub are : AllByRecursion IsLog logs
  pub text_is : text ≡ logs_text logs

-- ---- how a text that isn't one of logs is refused

-- the lines of a log
abbrev pub log_lines : Journal → List LogLine
log_lines log =
    Log log.opening.moment log.most
    ∷ (map (λ line. Account line) (dump_lines (kept_of log.opening)) ++ (call_lines log ++ Account End ∷ []))

-- logs begin with these lines, and go on with those behind them
pub record Begin (lines behind : List LogLine) : Type 0 where
  pub logs : List Journal
  pub are : AllByRecursion IsLog logs
  pub lines_are : flat_map log_lines logs ≡ lines ++ behind

-- The first line, from 1, that isn't the next one of logs: logs begin with the lines in front of it, and go on with none that the
-- text goes on with. Where these lines are whole logs a text may end; where it ends elsewhere, the line behind the last is named
pub record IsBadLine (text : List ℕ) (n : ℕ) : Type 0 where
  pub lines : List LogLine
  pub behind : List LogLine
  pub rest : List ℕ
  pub begin : Begin lines behind
  pub text_is : text ≡ text_of lines ++ rest
  pub none : (l : LogLine) (others : List LogLine) (back : List ℕ) → Begin lines (l ∷ others) → log_line_text l ++ back ≡ rest → ⊥
  pub over : Begin lines [] → rest ≢ []
  pub number : n ≡ length lines + 1

-- why a text isn't one of logs
abbrev pub IsWhyNoLogs : List ℕ → LogFault → Type 0
IsWhyNoLogs text (BadLine n) = IsBadLine text n
IsWhyNoLogs text Memory = ⊤
