-- What a text has told, as the code has it, for private clauses.
use Rattle.std.specs.Prelude.{◌≡◌, ◌≤◌, ◌+◌, ◌++◌, ℕ, List, Bool, true, false, Some, bytes_eq, length, take, ⊤}
use Rattle.std.specs.List.{AllByRecursion}
use Rattle.ss_bso.specs.declared.changes.Kept.{Kept}
use Rattle.ss_lines.specs.Lines.{IsLine}
use Rattle.ss_lines.specs.declared.lines.Line.{Line}
use Rattle.ss_lines.specs.declared.lines.Line.TheVariants.{Digest}
use Rattle.ss_dump.specs.declared.telling.Draft.{Draft}
use Rattle.ss_dump.specs.declared.telling.Stage.{Stage}
use Rattle.ss_dump.specs.declared.telling.Stage.TheVariants.{Nothing, Begun, Account, Closed, Whole}
use Rattle.ss_dump.specs.declared.faults.LineFault.{LineFault}
use Rattle.ss_dump.specs.declared.faults.LineFault.TheVariants.{BadLine, Memory}
use Rattle.ss_dump.specs.Dumps.{account_lines, text_of}
use Rattle.ss_dump.specs.Telling.{State, nothing, begun, account, closed, whole, is_whole, IsBadLine, next, NoneComes}
use Rattle.ss_dump.specs.Telling.{state_of_lines}

abbrev pub kept_in : Draft → Kept
kept_in d = record {
  rows = d.rows.items;
  collections = d.collections.items;
  store = d.store;
  last_delete = d.last_delete;
  counter = d.counter;
  batches = d.batches.items;
}

abbrev pub stage_state : Stage → State
stage_state Nothing = nothing
stage_state Begun = begun
stage_state (Account d) = account (kept_in d)
stage_state (Closed d digest) = closed (kept_in d) digest
stage_state (Whole d digest) = whole (kept_in d) digest

abbrev pub is_digest_line : Line → Bool
is_digest_line (Digest digest) = true
is_digest_line _ = false

-- so many bytes are the account's lines, where these are over
abbrev pub HasBody : List ℕ → ℕ → State → Type 0
HasBody text body nothing = ⊤
HasBody text body begun = ⊤
HasBody text body (account kept) = ⊤
HasBody text body (closed kept digest) = (body ≤ length text) × (take body text ≡ text_of (account_lines kept))
HasBody text body (whole kept digest) = (body ≤ length text) × (take body text ≡ text_of (account_lines kept))

-- so many bytes are so many lines, which have told this
pub record IsReadTo (text : List ℕ) (state : State) (used body count : ℕ) : Type 0 where
  pub lines : List Line
  pub are : AllByRecursion IsLine lines
  pub tell : state_of_lines lines ≡ Some state
  pub inside : used ≤ length text
  pub text_is : take used text ≡ text_of lines
  pub counted : count ≡ length lines
  pub few : count ≤ used
  pub body_is : HasBody text body state

abbrev pub is_closed : State → Bool
is_closed nothing = false
is_closed begun = false
is_closed (account kept) = false
is_closed (closed kept digest) = true
is_closed (whole kept digest) = false

-- a digest that is told is this one
abbrev pub states : State → List ℕ → Bool
states nothing digest = false
states begun digest = false
states (account kept) digest = false
states (closed kept stated) digest = bytes_eq stated digest
states (whole kept stated) digest = bytes_eq stated digest

-- a line makes this of what is told
abbrev pub Comes : State → State → Type 0
Comes state s = (l : Line) × (next state l ≡ Some s)

-- the line of this number isn't one that may come next, behind lines that have told this
pub record IsStop (text : List ℕ) (state : State) (n : ℕ) : Type 0 where
  pub lines : List Line
  pub rest : List ℕ
  pub are : AllByRecursion IsLine lines
  pub tell : state_of_lines lines ≡ Some state
  pub text_is : text ≡ text_of lines ++ rest
  pub none : NoneComes state rest
  pub number : n ≡ length lines + 1

-- it is such a line, or memory is wanting
abbrev pub IsStopOf : List ℕ → State → LineFault → Type 0
IsStopOf text state (BadLine n) = IsStop text state n
IsStopOf text state Memory = ⊤

-- a line stops before the digest is told, or memory is wanting
abbrev pub IsStopBefore : List ℕ → LineFault → Type 0
IsStopBefore text (BadLine n) = (state : State) × IsStop text state n × (is_closed state ≡ false) × (is_whole state ≡ false)
IsStopBefore text Memory = ⊤

-- a line is bad, or memory is wanting
abbrev pub IsLineFault : List ℕ → LineFault → Type 0
IsLineFault text (BadLine n) = IsBadLine text n
IsLineFault text Memory = ⊤
