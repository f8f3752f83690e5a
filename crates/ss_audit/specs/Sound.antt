-- Sound logs: legal journals, each within the limits of one, of which each opening after the first goes on from the closing before
-- it, so that no write was lost between two terms (this project).
use Rattle.std.specs.Prelude.{◌≤◌, ◌<◌, ◌-◌, ℕ, List, length, map, take, slice_get, Option, All}
use Rattle.std.specs.List.{AllAdjacentBelow}
use Rattle.std.specs.List.Sorted.{IsStrictlyIncreasing}
use Rattle.ss_bso.specs.declared.account.Plain.{Plain}
use Rattle.ss_bso.specs.Account.{tick}
use Rattle.ss_bso.specs.Validity.{IsValid, SameAccount}
use Rattle.ss_laws.specs.declared.journal.Entry.{Entry}
use Rattle.ss_laws.specs.Journal.{Journal}
use Rattle.ss_laws.specs.Journals.{account_after}
use Rattle.ss_booked.specs.Sizes.{journal_bytes, most_entries, most_journal_bytes}

-- the account that a log leaves
abbrev pub closing_of : Journal → Plain
closing_of log = account_after log.opening log.entries

-- an opening goes on from a closing: it isn't later, and at the closing's moment both are the same account, whatever the order of
-- rows, collections and batches
pub record GoesOn (closing opening : Plain) : Type 0 where
  pub moment : opening.moment ≤ closing.moment
  pub same : SameAccount (tick closing 0) (tick opening closing.moment)

-- the tickets of entries
abbrev pub tickets_of : List Entry → List ℕ
tickets_of entries = map (λ entry. entry.ticket) entries

-- entries are within the limits of a journal: they are no more than it may have, and each was made with fewer bytes before it than
-- make a journal full
pub record AreWithin (limit : ℕ) (entries : List Entry) : Type 0 where
  pub most : length entries ≤ limit
  pub few : length entries ≤ most_entries
  pub bytes : (k : ℕ) → k < length entries → journal_bytes (take k entries) < most_journal_bytes

-- a log is sound by itself
pub record IsSoundLog (log : Journal) : Type 0 where
  pub opening : IsValid log.opening
  pub tickets : IsStrictlyIncreasing (tickets_of log.entries)
  pub within : AreWithin log.most log.entries

-- logs are sound: each by itself, and each opening after the first goes on from the closing before it
pub record AreSound (logs : List Journal) : Type 0 where
  pub each : All IsSoundLog logs
  pub go_on : AllAdjacentBelow (λ log next. GoesOn (closing_of log) next.opening) logs (length logs)

-- the last element of a list, where it has one
abbrev pub last_of : {X : Type 0} → List X → Option X
last_of xs = slice_get xs (length xs - 1)
