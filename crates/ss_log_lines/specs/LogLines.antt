-- The lines of a log: how a log begins, what tells its opening account, and what was asked of it (the format is this
-- project's). A line is a list in compact JSON, and a newline.
use Rattle.std.specs.Prelude.{◌≡◌, ◌≤◌, ◌<◌, ◌^◌, ◌++◌, ◌∷◌, [], ℕ, List, codes, length, take, ⊤}
use Rattle.serde_json.specs.Data.{Items, array, string}
use Rattle.serde_json.specs.View.{items_of}
use Rattle.serde_json.specs.Written.{compact_text}
use Rattle.ss_text.specs.Time.{last_stamp}
use Rattle.ss_query.specs.Fit.{IsFitRequest}
use Rattle.ss_query.specs.declared.replies.Mark.{Mark}
use Rattle.ss_query.specs.declared.replies.Mark.TheVariants.{Done, Keeper, Memory}
use Rattle.ss_laws.specs.declared.journal.Entry.{Entry}
use Rattle.ss_lines.specs.Lines.{IsLine, list_of, natural, time}
use Rattle.ss_log_lines.specs.Requests.{IsRequest, request_data}
use Rattle.ss_log_lines.specs.declared.lines.LogLine.{LogLine}
use Rattle.ss_log_lines.specs.declared.lines.LogLine.TheVariants.{Log, Account, Call}

-- how a request ended, in text
abbrev pub mark_word : Mark → List ℕ
mark_word Done = codes "done"
mark_word Keeper = codes "keeper"
mark_word Memory = codes "memory"

-- an entry: its ticket, the pass that called, the reading of the clock, how it ended, and what was asked
abbrev pub call_list : Entry → Items
call_list e =
    items_of (string (codes "call") ∷ natural e.ticket ∷ natural e.pass ∷ natural e.now ∷ string (mark_word e.mark) ∷ request_data e.request ∷ [])

-- the list that a line is
abbrev pub log_list_of : LogLine → Items
log_list_of (Log moment most) = items_of (string (codes "log") ∷ natural 1 ∷ time moment ∷ natural most ∷ [])
log_list_of (Account line) = list_of line
log_list_of (Call entry) = call_list entry

-- the text of a line, its newline included
unfoldable pub log_line_text : LogLine → List ℕ
log_line_text l = compact_text (array (log_list_of l)) ++ 10 ∷ []

-- ---- which lines there are

-- each value of an entry has the form of its type
pub record IsEntry (e : Entry) : Type 0 where
  pub ticket : e.ticket < 2 ^ 64
  pub pass : e.pass < 2 ^ 32
  pub now : e.now < 2 ^ 64
  pub request : IsRequest e.request

-- an entry whose request is within the limits of one
pub record IsCall (e : Entry) : Type 0 where
  pub entry : IsEntry e
  pub fit : IsFitRequest e.request

-- what a line says was asked is within the limits of one request
abbrev pub IsFitLine : LogLine → Type 0
IsFitLine (Log moment most) = ⊤
IsFitLine (Account line) = ⊤
IsFitLine (Call entry) = IsFitRequest entry.request

abbrev pub IsLogLine : LogLine → Type 0
IsLogLine (Log moment most) = (moment ≤ last_stamp) × (most < 2 ^ 32)
IsLogLine (Account line) = IsLine line
IsLogLine (Call entry) = IsCall entry

-- no line stands at the front of a text
abbrev pub NoLogLineBegins : List ℕ → Type 0
NoLogLineBegins text = (l : LogLine) (back : List ℕ) → IsLogLine l → log_line_text l ++ back ≡ text → ⊥

-- the line that stands at the front of a text, of so many bytes
pub record IsLogFront (text : List ℕ) (l : LogLine) (used : ℕ) : Type 0 where
  pub line : IsLogLine l
  pub inside : used ≤ length text
  pub some : 0 < used
  pub text_is : take used text ≡ log_line_text l
