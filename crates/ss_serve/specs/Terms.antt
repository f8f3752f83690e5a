-- A term: the accounts that are handed back, and the reports of the links.
use Rattle.std.specs.Prelude.{◌≡◌, ◌⊎◌, ℕ, Bool, zero, suc, ◌+◌, ◌<◌, ◌≤◌, List, [], ◌∷◌, length, map, Option, Some}
use Rattle.std.specs.Prelude.{None}
use Rattle.std.specs.List.Sorted.{IsPermutation, IsStrictlyIncreasing}
use mathlib.Core.Option.{some}
use lib.ListN.{get_elem?}
use Rattle.ss_desk.specs.Journal.{Rises}
use Rattle.ss_desk.specs.declared.journaled.Full.{Full}
use Rattle.ss_outside.specs.Told.{Meanings}
use Rattle.ss_outside.specs.Causes.{Rose}
use Rattle.ss_links.specs.Counts.{RoseBy as GivenBy}
use Rattle.ss_links.specs.Ports.{Accepts}
use Rattle.ss_serve.specs.Accepting.{GaveFewer}
use Rattle.ss_town.specs.Opening.{FaultSays, BackAfter, MayOpen}
use Rattle.ss_town.specs.declared.opening.TownFault.{TownFault}
use Rattle.ss_laws.specs.declared.journal.Entry.{Entry}
use Rattle.ss_booked.specs.declared.booked.Terms.{Terms}
use Rattle.ss_booked.specs.Sound.{RoseBy, keeper_marks}
use Rattle.ss_booked.specs.Turns.{IsLegalOn, full_on}
use Rattle.ss_route.specs.declared.manner.Manner.{Manner}
use Rattle.ss_connection.specs.Known.{KnownAccount}
use Rattle.ss_connection.specs.declared.notes.Turn.{Turn}
use Rattle.ss_connection.specs.declared.notes.Turn.TheVariants as turns
use Rattle.ss_connection.specs.declared.notes.TurnNote.{TurnNote}
use Rattle.ss_serve.specs.declared.report.LinkReport.{LinkReport}
use Rattle.ss_serve.specs.declared.report.TermStop.{TermStop}
use Rattle.ss_serve.specs.declared.report.TermStop.TheVariants as stop
use Rattle.ss_serve.specs.Reports.{AreReports, all_calls_to, reports_by}
use Rattle.ss_serve.specs.Workers.{number_of}

-- the numbers of a list, each weighed
abbrev pub weigh : (ℕ → ℕ) → List ℕ → ℕ
weigh h [] = 0
weigh h (x ∷ xs) = h x + weigh h xs

-- each number stands in one list as often as in the other: whatever each weighs, both weigh the same
abbrev pub SameNumbers : List ℕ → List ℕ → Type 0
SameNumbers xs ys = (h : ℕ → ℕ) → weigh h xs ≡ weigh h ys

-- some element of the list is so
abbrev pub SomeIs : {X : Type 0} → (X → Type 0) → List X → Type 0
SomeIs {X} P l = (k : ℕ) × (x : X) × (get_elem? l k ≡ some x) × P x

-- the turn says that this account was full, with these two numbers
abbrev pub TurnIsFull : ℕ → Full → Turn → Type 0
TurnIsFull uid full (turns.Full u entries size) = (u ≡ uid) × (entries ≡ full.entries) × (size ≡ full.bytes)
TurnIsFull uid full _ = ⊥

module _ {L : Type 0} where
  -- so says a turn of some report
  abbrev pub SaysFull : ℕ → Full → List (LinkReport L) → Type 0
  SaysFull uid full reports = SomeIs (λ (r : LinkReport L). SomeIs (λ (note : TurnNote). TurnIsFull uid full note.turn) r.turns.items) reports

module _ {B : Type 0} where
  -- the uids of accounts, in their order
  abbrev pub uids_in : List (ℕ × B) → List ℕ
  uids_in accounts = map (λ a. a.0) accounts

  -- The smallest uid of an account among the first n that is so, or None where there is none
  abbrev pub Smallest : ((ℕ × B) → Type 0) → List (ℕ × B) → ℕ → Option ℕ → Type 0
  Smallest P accounts n None = (k : ℕ) (a : ℕ × B) → k < n → get_elem? accounts k ≡ some a → P a → ⊥
  Smallest P accounts n (Some uid) = SomeIs (λ (a : ℕ × B). P a × (a.0 ≡ uid)) accounts
      × ((k : ℕ) (a : ℕ × B) → k < n → get_elem? accounts k ≡ some a → P a → uid ≤ a.0)

module _ {B : Type 0} (terms : B → Terms) (entries : B → List Entry) where
  -- what is known of the accounts, by passes of this number, once the accounts are handed back: their whole journals
  abbrev pub known_after : ℕ → List (ℕ × B) → ℕ → KnownAccount
  known_after number [] i = record { number = 0; fixed = None; journal = [] }
  known_after number (a ∷ accounts) zero = record { number = number; fixed = Some (terms a.1); journal = entries a.1 }
  known_after number (a ∷ accounts) (suc i) = known_after number accounts i

  module _ {L : Type 0} where
    -- the account is full as it is handed back, and a turn of a report says so
    pub record IsFull (reports : List (LinkReport L)) (a : ℕ × B) : Type 0 where
      pub full : Full
      pub is_full : full_on (terms a.1) (entries a.1) ≡ Some full
      pub said : SaysFull a.0 full reports

    -- Which account was full: none, where the term ended without a failure of the port and no account is told
    abbrev pub FullSays : List (ℕ × B) → List (LinkReport L) → TermStop → Type 0
    FullSays handed reports (stop.Full uid) = Smallest (IsFull reports) handed (length handed) (Some uid)
    FullSays handed reports stop.Connections = Smallest (IsFull reports) handed (length handed) None
    FullSays handed reports stop.PortEnded = Smallest (IsFull reports) handed (length handed) None
    FullSays handed reports stop.Rested = Smallest (IsFull reports) handed (length handed) None
    FullSays handed reports _ = Unit {0}

    -- no town was opened: the accounts and the clocks come back, and there are no reports
    pub record IsRefusedTerm (fault : TownFault) (given handed : List (ℕ × B)) (reports : List (LinkReport L)) (coming coming' : List (Option (List ℕ))) : Type 0 where
      pub cause : FaultSays given fault
      pub back : BackAfter terms entries given handed fault
      pub none : reports ≡ []
      pub clocks : coming' ≡ coming

    module _ (faults : B → ℕ) (manner : Manner) (tells : L → Meanings) (closed : L → Bool) where
      -- The accounts, the reports and the clocks that are handed back, of clocks that told `coming`
      pub record AreServedAccounts (handed : List (ℕ × B)) (reports : List (LinkReport L)) (coming coming' : List (Option (List ℕ))) : Type 0 where
        -- Each journal is legal, and its tickets rise.
        pub lawful : (i uid : ℕ) (b : B) → get_elem? handed i ≡ some (uid, b) → IsLegalOn (terms b) (entries b) × Rises (λ (e : Entry). e.ticket) (entries b)
        -- Since its opening the keeper has failed at least as often as the journal has entries that say so.
        pub kept : (i uid : ℕ) (b : B) → get_elem? handed i ≡ some (uid, b) → RoseBy (keeper_marks (entries b)) (terms b).faults (faults b)
        -- The tickets of a journal are those of the calls to this account in the reports, each once.
        pub tickets : (i uid : ℕ) (b : B) → get_elem? handed i ≡ some (uid, b) → SameNumbers (map (λ (e : Entry). e.ticket) (entries b)) (all_calls_to uid reports)
        -- The clocks come back in their order, one for each worker.
        pub clocks : length coming' ≡ length coming
        pub workers : (j : ℕ) (r : LinkReport L) → get_elem? reports j ≡ some r → r.worker < length coming
        -- A worker's reports, in their order, are of connections on links that were new, in the term's manner, over the journals
        -- that are handed back, with the number of its passes and the readings of its clock.
        pub reported : (k : ℕ) (before after : Option (List ℕ)) → get_elem? coming k ≡ some before → get_elem? coming' k ≡ some after
            → AreReports manner tells closed (uids_in handed) (known_after (number_of k) handed) (reports_by k reports) before after

      -- What a term hands back of the accounts that were handed in
      pub record IsTerm (given handed : List (ℕ × B)) (reports : List (LinkReport L)) (coming coming' : List (Option (List ℕ))) : Type 0 where
        -- The accounts come back in the order of their uids, each the account of the uid that it was, with the opening, the most
        -- entries and the keeper's count of faults at the opening that it had.
        pub may : MayOpen given
        pub order : List (ℕ × B)
        pub moved : IsPermutation given order
        pub count : length handed ≡ length order
        pub back : (i uid : ℕ) (b : B) → get_elem? order i ≡ some (uid, b) → (b' : B) × (get_elem? handed i ≡ some (uid, b')) × (terms b' ≡ terms b)
        pub sorted : IsStrictlyIncreasing (uids_in handed)
        pub served : AreServedAccounts handed reports coming coming'

      -- What a term hands back, by how it ended
      abbrev pub TermSays : List (ℕ × B) → List (ℕ × B) → List (LinkReport L) → List (Option (List ℕ)) → List (Option (List ℕ)) → TermStop → Type 0
      TermSays given handed reports coming coming' (stop.Town fault) = IsRefusedTerm fault given handed reports coming coming'
      TermSays given handed reports coming coming' stop.Connections = IsTerm given handed reports coming coming'
      TermSays given handed reports coming coming' stop.PortEnded = IsTerm given handed reports coming coming'
      TermSays given handed reports coming coming' stop.Rested = IsTerm given handed reports coming coming'
      TermSays given handed reports coming coming' stop.Port = IsTerm given handed reports coming coming'
      TermSays given handed reports coming coming' (stop.Full uid) = IsTerm given handed reports coming coming'
      TermSays given handed reports coming coming' stop.Memory = IsTerm given handed reports coming coming'

-- the port gave as many links as were wanted, and had neither failed nor ended nor rested
abbrev pub GaveAll : ℕ → Accepts → Accepts → Type 0
GaveAll n old new = GivenBy n old.links new.links × (new.faults ≡ old.faults) × (new.ends ≡ old.ends) × (new.rests ≡ old.rests)

-- it ended, and had neither failed nor rested
abbrev pub CameToEnd : Accepts → Accepts → Type 0
CameToEnd old new = Rose old.ends new.ends × (new.faults ≡ old.faults) × (new.rests ≡ old.rests)

-- it rested once, before it had given all links, and had neither failed nor ended
abbrev pub HasRested : ℕ → Accepts → Accepts → Type 0
HasRested n old new = GivenBy 1 old.rests new.rests × (new.faults ≡ old.faults) × (new.ends ≡ old.ends) × GaveFewer n old.links new.links

-- Why a term ended, by the port's counts before and after. Want of memory has no other cause here
abbrev pub HasEnded : TermStop → ℕ → Accepts → Accepts → Type 0
HasEnded stop.Connections n old new = GaveAll n old new
HasEnded stop.PortEnded n old new = CameToEnd old new
HasEnded stop.Rested n old new = HasRested n old new
HasEnded stop.Port n old new = Rose old.faults new.faults × (new.ends ≡ old.ends) × (new.rests ≡ old.rests)
HasEnded (stop.Full uid) n old new = CameToEnd old new ⊎ HasRested n old new ⊎ GaveAll n old new
HasEnded (stop.Town fault) n old new = new ≡ old
HasEnded stop.Memory n old new = (new.faults ≡ old.faults) × (new.ends ≡ old.ends) × (new.rests ≡ old.rests)
