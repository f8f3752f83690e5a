-- What a turn says: the response to one message of a connection, by its account's journal, over either manner of reading conditions.
use Rattle.std.specs.Prelude.{◌≡◌, ℕ, ◌+◌, Bool, ◌||◌, nat_eq, List, ◌∷◌, ◌++◌, length, Some}
use mathlib.Core.Option.{some}
use lib.ListN.{get_elem?}
use Rattle.ss_desk.specs.declared.journaled.Full.{Full}
use Rattle.ss_desk.specs.Journal.{Begins}
use Rattle.ss_town.specs.Places.{At}
use Rattle.ss_query.specs.declared.replies.Reply.{Reply}
use Rattle.ss_query.specs.declared.replies.Said.TheVariants as words
use Rattle.ss_query.specs.declared.requests.Request.{Request}
use Rattle.ss_laws.specs.declared.journal.Entry.{Entry}
use Rattle.ss_laws.specs.Journals.{reply_at}
use Rattle.ss_booked.specs.declared.booked.Asked.{Asked}
use Rattle.ss_booked.specs.declared.booked.Terms.{Terms}
use Rattle.ss_booked.specs.Turns.{ask_of, full_on, journal_on}
use Rattle.ss_http.specs.declared.message.Message.{Message}
use Rattle.ss_http.specs.Responses.{memory_response}
use Rattle.ss_route.specs.declared.manner.Manner.{Manner}
use Rattle.ss_route.specs.declared.routed.Local.{Local}
use Rattle.ss_route.specs.declared.routed.Routed.{Routed}
use Rattle.ss_route.specs.declared.routed.Routed.TheVariants as routes
use Rattle.ss_route.specs.Refusals.{local_with_word}
use Rattle.ss_route.specs.Routing.{routing_of_message}
use Rattle.ss_route.specs.Wire.{wire, local_wire, not_listed}
use Rattle.ss_connection.specs.Known.{KnownAccount}
use Rattle.ss_route.specs.Ready.{OrMemory}
use Rattle.ss_text.specs.Time.{clamped_reading}
use Rattle.ss_connection.specs.declared.notes.Turn.{Turn}
use Rattle.ss_connection.specs.declared.notes.Turn.TheVariants as turns
use Rattle.ss_connection.specs.declared.notes.TurnNote.{TurnNote}

-- how many messages of one connection are answered (this project)
abbrev pub most_messages : ℕ
most_messages = 1000

-- whether the response to a message closes, before which so many were answered: the message asks for it, the gate says so, or it is
-- the last that is answered
abbrev pub closes : ℕ → Message → Bool → Bool
closes count message by_gate = message.last || by_gate || nat_eq (count + 1) most_messages

-- what a client is told whose account's journal has no room for one more call in this term
abbrev pub term_is_full : Local
term_is_full = local_with_word 503 words.Term

-- A place of the account's journal bears this ticket, it was entered by the pass with this number for this ask, and this is the
-- one-account API's reply there
pub record IsCallInJournal (known : KnownAccount) (ticket : ℕ) (asked : Asked) (reply : Reply) : Type 0 where
  pub terms : Terms
  pub fixed : known.fixed ≡ Some terms
  pub before : List Entry
  pub entry : Entry
  pub after : List Entry
  pub place : known.journal ≡ before ++ entry ∷ after
  pub drawn : entry.ticket ≡ ticket
  pub number : entry.pass ≡ known.number
  pub asked_is : ask_of entry ≡ asked
  pub answered : reply_at (journal_on terms known.journal) (length before) ≡ Some reply

-- the account's journal began with one that was full, with these two numbers
pub record WasFull (known : KnownAccount) (full : Full) : Type 0 where
  pub terms : Terms
  pub fixed : known.fixed ≡ Some terms
  pub before : List Entry
  pub begins : Begins before known.journal
  pub is_full : full_on terms before ≡ Some full

-- no account has this uid
abbrev pub HasNoAccount : List ℕ → ℕ → Type 0
HasNoAccount uids uid = (i : ℕ) → At uids i uid → ⊥

-- what a message is told that no account is asked for: what the first rule says that refuses it, or that its account isn't listed
abbrev pub IsToldLocally : List ℕ → Routed → Local → Type 0
IsToldLocally uids (routes.Local local) told = told ≡ local
IsToldLocally uids (routes.Ask uid request newlines) told = HasNoAccount uids uid × (told ≡ not_listed)
IsToldLocally uids routes.Memory told = ⊥

-- routing makes of a message a request to this account, which is listed
pub record AsksAccount (manner : Manner) (uids : List ℕ) (message : Message) (uid : ℕ) : Type 0 where
  pub place : ℕ
  pub listed : At uids place uid
  pub request : Request
  pub newlines : Bool
  pub routes : routing_of_message manner message ≡ routes.Ask uid request newlines

-- the response to a message that no account was asked for
pub record SaysLocal (manner : Manner) (uids : List ℕ) (message : Message) (now : ℕ) (last : Bool) (bytes : List ℕ) : Type 0 where
  pub local : Local
  pub told : IsToldLocally uids (routing_of_message manner message) local
  pub response : OrMemory (local_wire local (clamped_reading now) last) (clamped_reading now) last bytes

-- the response to a message that was asked of its account: the reply at the place that bears the turn's ticket
pub record SaysCall (manner : Manner) (uids : List ℕ) (known : ℕ → KnownAccount) (message : Message) (now : ℕ) (last : Bool) (uid ticket : ℕ) (bytes : List ℕ) : Type 0 where
  pub asks : AsksAccount manner uids message uid
  pub reply : Reply
  pub called : IsCallInJournal (known asks.place) ticket (record { now = now; request = asks.request }) reply
  pub response : OrMemory (wire reply asks.newlines last) reply.moment last bytes

-- the response to a message whose account's journal was full
pub record SaysFull (manner : Manner) (uids : List ℕ) (known : ℕ → KnownAccount) (message : Message) (now : ℕ) (last : Bool) (uid : ℕ) (full : Full) (bytes : List ℕ) : Type 0 where
  pub asks : AsksAccount manner uids message uid
  pub was_full : WasFull (known asks.place) full
  pub response : OrMemory (local_wire term_is_full (clamped_reading now) last) (clamped_reading now) last bytes

-- A message's turn at this reading of the clock has these bytes as its response. A turn is `Local` exactly where routing refuses the
-- message or its account isn't listed, memory aside: the two after it say that the account is asked, and is listed
abbrev pub SaysTurn : Manner → List ℕ → (ℕ → KnownAccount) → Message → ℕ → Bool → Turn → List ℕ → Type 0
SaysTurn manner uids known message now last turns.Local bytes = SaysLocal manner uids message now last bytes
SaysTurn manner uids known message now last (turns.Call uid ticket) bytes = SaysCall manner uids known message now last uid ticket bytes
SaysTurn manner uids known message now last (turns.Full uid entries size) bytes = SaysFull manner uids known message now last uid (record { entries = entries; bytes = size }) bytes
SaysTurn manner uids known message now last turns.Memory bytes = bytes ≡ memory_response (clamped_reading now) last

-- the bytes that were taken from the link for a message, the message that was answered, the note of its turn, and the response
pub record Exchange : Type 0 where
  pub got : List ℕ
  pub message : Message
  pub note : TurnNote
  pub response : List ℕ

-- the notes say of each response what the gate may say of it
abbrev pub AreGatedTurns : (ℕ → Bool → Type 0) → List TurnNote → Type 0
AreGatedTurns says notes = (k : ℕ) (note : TurnNote) → get_elem? notes k ≡ some note → says k note.closed_by_gate

-- each message's response is what its turn says
abbrev pub SaysEach : Manner → List ℕ → (ℕ → KnownAccount) → List Exchange → Type 0
SaysEach manner uids known exchanges = (k : ℕ) (x : Exchange) → get_elem? exchanges k ≡ some x
    → SaysTurn manner uids known x.message x.note.now (closes k x.message x.note.closed_by_gate) x.note.turn x.response
