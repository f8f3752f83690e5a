-- A log at the front of a text, for private clauses.
use Rattle.std.specs.Prelude.{◌≡◌, ◌≤◌, ◌+◌, ◌++◌, ◌∷◌, [], ℕ, List, map, length, take, ⊤}
use Rattle.std.specs.List.{AllByRecursion, flat_map}
use Rattle.ss_laws.specs.Journal.{Journal}
use Rattle.ss_laws.specs.declared.journal.Entry.{Entry}
use Rattle.ss_lines.specs.declared.lines.Line.TheVariants.{End}
use Rattle.ss_log_lines.specs.LogLines.{IsCall, IsLogLine, log_line_text}
use Rattle.ss_log_lines.specs.declared.lines.LogLine.{LogLine}
use Rattle.ss_log_lines.specs.declared.lines.LogLine.TheVariants.{Log, Account, Call}
use Rattle.ss_logs.specs.declared.calls.Next.{Next}
use Rattle.ss_logs.specs.declared.calls.Next.TheVariants as next
use Rattle.ss_logs.specs.declared.faults.LogFault.{LogFault}
use Rattle.ss_logs.specs.declared.faults.LogFault.TheVariants.{BadLine, Memory}
use Rattle.ss_logs.specs.Logs.{IsLog, log_lines, log_text, logs_text, text_of}

-- ---- entries, and the end

abbrev pub next_line : Next → LogLine
next_line (next.Call entry) = Call entry
next_line next.End = Account End

-- neither an entry nor the end stands at the front of a text
abbrev pub NoneBehind : List ℕ → Type 0
NoneBehind text = (n : Next) (back : List ℕ) → IsLogLine (next_line n) → log_line_text (next_line n) ++ back ≡ text → ⊥

-- a line for each of these entries
abbrev pub calls_of : List Entry → List LogLine
calls_of entries = map (λ entry. Call entry) entries

-- so many bytes at the front of the text are these entries
pub record AreReadCalls (text : List ℕ) (entries : List Entry) (used : ℕ) : Type 0 where
  pub are : AllByRecursion IsCall entries
  pub inside : used ≤ length text
  pub text_is : take used text ≡ text_of (calls_of entries)

-- so many bytes at the front of the text are these entries and the end
pub record AreCalls (text : List ℕ) (entries : List Entry) (used : ℕ) : Type 0 where
  pub are : AllByRecursion IsCall entries
  pub inside : used ≤ length text
  pub text_is : take used text ≡ text_of (calls_of entries ++ Account End ∷ [])

-- the line of this number is neither an entry nor the end, behind entries
pub record IsBadCall (text : List ℕ) (n : ℕ) : Type 0 where
  pub entries : List Entry
  pub rest : List ℕ
  pub are : AllByRecursion IsCall entries
  pub text_is : text ≡ text_of (calls_of entries) ++ rest
  pub none : NoneBehind rest
  pub number : n ≡ length entries + 1

abbrev pub IsCallsFault : List ℕ → LogFault → Type 0
IsCallsFault text (BadLine n) = IsBadCall text n
IsCallsFault text Memory = ⊤

-- ---- a log

-- no log begins at the front of a text
abbrev pub NoHead : List ℕ → Type 0
NoHead text = (moment most : ℕ) (back : List ℕ) → IsLogLine (Log moment most) → log_line_text (Log moment most) ++ back ≡ text → ⊥

-- so many bytes at the front of the text, and so many lines, are this log
pub record IsFrontLog (text : List ℕ) (log : Journal) (used lines : ℕ) : Type 0 where
  pub is : IsLog log
  pub inside : used ≤ length text
  pub text_is : take used text ≡ log_text log
  pub counted : lines ≡ length (log_lines log)

-- in a log that begins with these lines this one may come next
pub record GoesOn (lines : List LogLine) (l : LogLine) : Type 0 where
  pub log : Journal
  pub behind : List LogLine
  pub is : IsLog log
  pub lines_are : log_lines log ≡ lines ++ l ∷ behind

-- the first line, from 1, that isn't the next one of a log at the front of the text
pub record IsBadFront (text : List ℕ) (n : ℕ) : Type 0 where
  pub lines : List LogLine
  pub rest : List ℕ
  pub awaited : LogLine
  pub going : GoesOn lines awaited
  pub text_is : text ≡ text_of lines ++ rest
  pub none : (l : LogLine) (back : List ℕ) → GoesOn lines l → log_line_text l ++ back ≡ rest → ⊥
  pub number : n ≡ length lines + 1

abbrev pub IsFrontFault : List ℕ → LogFault → Type 0
IsFrontFault text (BadLine n) = IsBadFront text n
IsFrontFault text Memory = ⊤

-- ---- logs

-- so many bytes at the front of the text, and so many lines, are these logs
pub record AreReadTo (text : List ℕ) (logs : List Journal) (used lines : ℕ) : Type 0 where
  pub are : AllByRecursion IsLog logs
  pub inside : used ≤ length text
  pub text_is : take used text ≡ logs_text logs
  pub counted : lines ≡ length (flat_map log_lines logs)
