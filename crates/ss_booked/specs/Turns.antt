-- The journal as the desk sees it: what no call changes, and the entries.
use Rattle.std.specs.Prelude.{◌≡◌, ◌-◌, ℕ, List, length, Option, Some}
use Rattle.ss_desk.specs.declared.journaled.Full.{Full}
use Rattle.ss_laws.specs.declared.journal.Entry.{Entry}
use Rattle.ss_laws.specs.Journal.{Journal}
use Rattle.ss_laws.specs.Journals.{reply_at, IsLegal}
use Rattle.ss_booked.specs.declared.booked.Answered.{Answered}
use Rattle.ss_booked.specs.declared.booked.Asked.{Asked}
use Rattle.ss_booked.specs.declared.booked.Terms.{Terms}
use Rattle.ss_booked.specs.Sizes.{full_of, is_half_full, HadRoom}

-- what was asked by the call of an entry
abbrev pub ask_of : Entry → Asked
ask_of entry = record { now = entry.now; request = entry.request }

-- the journal with these entries
abbrev pub journal_on : Terms → List Entry → Journal
journal_on terms entries = record { opening = terms.opening; most = terms.most; entries = entries }

-- a journal as calls make it: it is legal, and each of its entries was made while it had room
pub record IsMadeByCalls (journal : Journal) : Type 0 where
  pub legal : IsLegal journal
  pub had_room : HadRoom journal

-- it is so
abbrev pub IsLegalOn : Terms → List Entry → Type 0
IsLegalOn terms entries = IsMadeByCalls (journal_on terms entries)

-- the reply at its last place, and whether it is more than half full with that
abbrev pub RepliesLast : Terms → List Entry → Answered → Type 0
RepliesLast terms entries answered = (reply_at (journal_on terms entries) (length entries - 1) ≡ Some answered.reply) × (answered.half_full ≡ is_half_full (journal_on terms entries))

-- where it is full, its two numbers
abbrev pub full_on : Terms → List Entry → Option Full
full_on terms entries = full_of (journal_on terms entries)
