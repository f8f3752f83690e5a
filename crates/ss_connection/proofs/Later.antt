-- What a connection says stays true where more is known of the accounts. Callers who know the journals later rest on `served_later`.
use Rattle.std.proofs.Common.{◌≡◌, ◌≤◌, ℕ, ◌+◌, Bool, List, ◌∷◌, ◌++◌, length, length-append, take, Option, refl, sym}
use Rattle.std.proofs.Common.{ap, ◌∙◌, append_assoc, arith}
use Rattle.std.proofs.lemmas.List.{take-append-le}
use Rattle.ss_desk.specs.declared.journaled.Full.{Full}
use Rattle.ss_desk.specs.Journal.{Begins}
use Rattle.ss_desk.proofs.Served.{begins_itself, begins_then}
use Rattle.ss_outside.specs.Told.{Meanings}
use Rattle.ss_query.specs.declared.replies.Reply.{Reply}
use Rattle.ss_laws.specs.declared.journal.Entry.{Entry}
use Rattle.ss_laws.proofs.Journals.{reply_at-alone}
use Rattle.ss_booked.specs.declared.booked.Asked.{Asked}
use Rattle.ss_booked.specs.Turns.{journal_on}
use Rattle.ss_http.specs.declared.message.Message.{Message}
use Rattle.ss_route.specs.declared.manner.Manner.{Manner}
use Rattle.ss_connection.specs.Known.{KnownAccount, KnowsMore}
use Rattle.ss_connection.specs.Turns.{IsCallInJournal, WasFull, SaysTurn, SaysEach, Exchange}
use Rattle.ss_connection.specs.Ends.{IsServedConnection}
use Rattle.ss_connection.specs.declared.notes.End.{End}
use Rattle.ss_connection.specs.declared.notes.Turn.{Turn}
use Rattle.ss_connection.specs.declared.notes.Turn.TheVariants as turns
use Rattle.ss_connection.specs.declared.notes.TurnNote.{TurnNote}

pub knows_itself : (known : ℕ → KnownAccount) → KnowsMore known known
knows_itself known = record { number = λ i. refl; fixed = λ i. refl; journal = λ i. begins_itself (known i).journal }

pub knows_then : (known known' known2 : ℕ → KnownAccount) → KnowsMore known known' → KnowsMore known' known2 → KnowsMore known known2
knows_then known known' known2 first next = record {
  number = λ i. next.number i ∙ first.number i;
  fixed = λ i. next.fixed i ∙ first.fixed i;
  journal = λ i. begins_then (known i).journal (known' i).journal (known2 i).journal (first.journal i) (next.journal i);
}

-- a journal's front up to a place stays
front_stays : (before after more : List Entry) (entry : Entry)
    → take (length before + 1) (before ++ entry ∷ after) ≡ take (length before + 1) ((before ++ entry ∷ after) ++ more)
front_stays before after more entry =
    let within : length before + 1 ≤ length (before ++ entry ∷ after) = omega (arith, length-append before (entry ∷ after)) in
    sym (take-append-le (length before + 1) (before ++ entry ∷ after) more within)

pub called_later : (known known' : KnownAccount) (ticket : ℕ) (asked : Asked) (reply : Reply) → known'.number ≡ known.number → known'.fixed ≡ known.fixed
    → Begins known.journal known'.journal → IsCallInJournal known ticket asked reply → IsCallInJournal known' ticket asked reply
called_later known known' ticket asked reply number fixed begins h = record {
  terms = h.terms;
  fixed = fixed ∙ h.fixed;
  before = h.before;
  entry = h.entry;
  after = h.after ++ begins.0;
  place = begins.1 ∙ (ap (λ (l : List Entry). l ++ begins.0) h.place ∙ append_assoc h.before (h.entry ∷ h.after) begins.0);
  drawn = h.drawn;
  number = h.number ∙ sym number;
  asked_is = h.asked_is;
  answered =
      let front : take (length h.before + 1) known'.journal ≡ take (length h.before + 1) known.journal =
      ap (take (length h.before + 1)) (begins.1 ∙ ap (λ (l : List Entry). l ++ begins.0) h.place)
      ∙ (sym (front_stays h.before h.after begins.0 h.entry) ∙ ap (take (length h.before + 1)) (sym h.place)) in
      reply_at-alone (journal_on h.terms known'.journal) (journal_on h.terms known.journal) (length h.before) refl front ∙ h.answered;
}

pub was_full_later : (known known' : KnownAccount) (full : Full) → known'.fixed ≡ known.fixed → Begins known.journal known'.journal → WasFull known full → WasFull known' full
was_full_later known known' full fixed begins h = record {
  terms = h.terms;
  fixed = fixed ∙ h.fixed;
  before = h.before;
  begins = begins_then h.before known.journal known'.journal h.begins begins;
  is_full = h.is_full;
}

module _ (manner : Manner) (uids : List ℕ) (known known' : ℕ → KnownAccount) (more : KnowsMore known known') where
  pub turn_later : (message : Message) (now : ℕ) (last : Bool) (turn : Turn) (bytes : List ℕ)
      → SaysTurn manner uids known message now last turn bytes → SaysTurn manner uids known' message now last turn bytes
  turn_later message now last turns.Local bytes h = h
  turn_later message now last (turns.Call uid ticket) bytes h = let i = h.asks.place in record {
    asks = h.asks;
    reply = h.reply;
    called = called_later (known i) (known' i) ticket (record { now = now; request = h.asks.request }) h.reply (more.number i) (more.fixed i) (more.journal i) h.called;
    response = h.response;
  }
  turn_later message now last (turns.Full uid entries size) bytes h = let i = h.asks.place in record {
    asks = h.asks;
    was_full = was_full_later (known i) (known' i) (record { entries = entries; bytes = size }) (more.fixed i) (more.journal i) h.was_full;
    response = h.response;
  }
  turn_later message now last turns.Memory bytes h = h

  pub each_later : (exchanges : List Exchange) → SaysEach manner uids known exchanges → SaysEach manner uids known' exchanges
  each_later exchanges says = λ k x at. turn_later x.message x.note.now _ x.note.turn x.response (says k x at)

  pub served_later : (end : End) (link link' : Meanings) (coming coming' : Option (List ℕ)) (notes : List TurnNote)
      → IsServedConnection manner uids known end link link' coming coming' notes → IsServedConnection manner uids known' end link link' coming coming' notes
  served_later end link link' coming coming' notes h = record {
    exchanges = h.exchanges;
    refusal = h.refusal;
    taken = h.taken;
    rest = h.rest;
    sent = h.sent;
    noted = h.noted;
    says = each_later h.exchanges h.says;
    moves = h.moves;
    split = h.split;
    more = h.more;
    gets = h.gets;
    sparing = h.sparing;
    no_more = h.no_more;
    sends = h.sends;
    clock = h.clock;
    cause = h.cause;
    faults = h.faults;
    fewer = h.fewer;
  }
