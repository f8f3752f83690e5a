-- The calls of a connection's turns, and the entries of the passes that made them.
use Rattle.std.specs.Prelude.{◌≡◌, ℕ, ◌++◌, List, [], ◌∷◌, length, map, drop, ◌==◌, if◌then◌else◌}
use Rattle.std.specs.List.{flat_map}
use Rattle.ss_desk.specs.declared.pass.RawPass.{RawPass}
use Rattle.ss_desk.specs.Journal.{entries_of}
use Rattle.ss_town.specs.Places.{At}
use Rattle.ss_laws.specs.declared.journal.Entry.{Entry}
use Rattle.ss_booked.specs.declared.booked.Terms.{Terms}
use Rattle.ss_connection.specs.Known.{KnownAccount, known_by}
use Rattle.ss_connection.specs.declared.notes.Turn.{Turn}
use Rattle.ss_connection.specs.declared.notes.Turn.TheVariants.{Call}
use Rattle.ss_connection.specs.declared.notes.TurnNote.{TurnNote}

-- the turns that were added to a list
abbrev pub turns_added : List TurnNote → List TurnNote → List TurnNote
turns_added before after = drop (length before) after

-- the tickets of a turn that called this account: its one, or none
abbrev pub call_to : ℕ → Turn → List ℕ
call_to uid (Call other ticket) = if other == uid then ticket ∷ [] else []
call_to uid _ = []

-- the tickets of the turns that called this account, in order
abbrev pub calls_to : ℕ → List TurnNote → List ℕ
calls_to uid notes = flat_map (λ note. call_to uid note.turn) notes

-- the tickets of the entries that bear the pass's number, in order
abbrev pub own_tickets : KnownAccount → List ℕ
own_tickets known = map (λ entry. entry.ticket) (entries_of (λ entry. entry.pass) known.number known.journal)

module _ {T : Type 0} where
  -- the passes' new entries are those of the calls of these turns, in order, account by account
  abbrev pub Enters : List ℕ → List (RawPass T Terms Entry) → List (RawPass T Terms Entry) → List TurnNote → Type 0
  Enters uids passes passes' notes = (i uid : ℕ) → At uids i uid → own_tickets (known_by passes' i) ≡ own_tickets (known_by passes i) ++ calls_to uid notes
