-- Which account was full, by the turns of the reports, and how a term ends then.
use Rattle.std.specs.Prelude.{◌≡◌, ℕ, Bool, true, false, min, List, length, Option, Some, None}
use Rattle.ss_laws.specs.declared.journal.Entry.{Entry}
use Rattle.ss_connection.specs.declared.notes.Turn.{Turn}
use Rattle.ss_connection.specs.declared.notes.Turn.TheVariants as turns
use Rattle.ss_connection.specs.declared.notes.TurnNote.{TurnNote}
use Rattle.ss_serve.specs.declared.report.LinkReport.{LinkReport}
use Rattle.ss_serve.specs.declared.report.TermStop.{TermStop}
use Rattle.ss_serve.specs.declared.report.TermStop.TheVariants as stop
use Rattle.ss_serve.specs.Terms.{SomeIs}

-- a test is true exactly where this holds
abbrev pub IsTestOf : Bool → Type 0 → Type 0
IsTestOf true P = P
IsTestOf false P = P → ⊥

-- the turn says that this account was full, with so many entries
abbrev pub TurnNames : ℕ → ℕ → Turn → Type 0
TurnNames uid entries (turns.Full u count size) = (u ≡ uid) × (count ≡ entries)
TurnNames uid entries _ = ⊥

-- a turn says so
abbrev pub ReportNames : ℕ → ℕ → List TurnNote → Type 0
ReportNames uid entries notes = SomeIs (λ (note : TurnNote). TurnNames uid entries note.turn) notes

-- a turn of a report says so
abbrev pub SomeReportNames : {L : Type 0} → ℕ → ℕ → List (LinkReport L) → Type 0
SomeReportNames {L} uid entries reports = SomeIs (λ (r : LinkReport L). ReportNames uid entries r.turns.items) reports

module _ {B L : Type 0} (entries : B → List Entry) where
  -- a turn says that the account was full with as many entries as it has
  abbrev pub IsNamedFull : List (LinkReport L) → (ℕ × B) → Type 0
  IsNamedFull reports a = SomeReportNames a.0 (length (entries a.1)) reports

-- the smallest uid, with one account more that counts or does not
abbrev pub OneMore : Bool → Option ℕ → ℕ → Option ℕ → Type 0
OneMore false found uid next = next ≡ found
OneMore true None uid next = next ≡ Some uid
OneMore true (Some least) uid next = next ≡ Some (min least uid)

-- a town was open
abbrev pub IsOpenStop : TermStop → Type 0
IsOpenStop (stop.Town fault) = ⊥
IsOpenStop _ = Unit {0}

-- the end that goes with this finding
abbrev pub FullKind : Option ℕ → TermStop → Type 0
FullKind full (stop.Full uid) = full ≡ Some uid
FullKind full stop.Connections = full ≡ None
FullKind full stop.PortEnded = full ≡ None
FullKind full stop.Rested = full ≡ None
FullKind full _ = Unit {0}
