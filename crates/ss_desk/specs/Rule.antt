-- The rule of a desk, which holds at every moment: `TakesTurns`, sentence by sentence.
-- A desk's table has two words, SERVING and TICKETS, one slot for the value, and what each pass knows.
use Rattle.std.specs.Prelude.{◌^◌, ◌≡◌, ◌⊎◌, ℕ, ◌+◌, ◌<◌, ◌≤◌, List, [], ◌∷◌, Option, Some}
use mathlib.Core.Option.{none, some}
use mathlib.Core.Option as maybe
use lib.ListN.{get_elem?}
use Rattle.atomic_table.specs.Table.{State}
use Rattle.ss_desk.specs.declared.view.View.{View}
use Rattle.ss_desk.specs.declared.view.Page.{Page}
use Rattle.ss_desk.specs.declared.view.Stage.{Stage}
use Rattle.ss_desk.specs.declared.view.Stage.TheVariants.{Idle, Waits, Holds}
use Rattle.ss_desk.specs.Journal.{entries_of, Begins, Below, Rises}
use Rattle.ss_desk.specs.Views.{InRange, Among, HasTicket, tickets_held, numbers, Covers, Live, Bears}

abbrev pub total : {V : Type 0} → (V → ℕ) → List V → ℕ
total f [] = 0
total f (v ∷ vs) = f v + total f vs

-- What a pass knows is true of the journal
pub record Agrees {F E : Type 0} (pass_of : E → ℕ) (fix : F) (journal : List E) (v : View F E) : Type 0 where
  -- It knows the fixed part.
  pub same : Live v → v.fixed ≡ Some fix
  -- What it has seen is a beginning of the journal.
  pub known : Begins v.seen journal
  -- An entry that bears a number that it holds bears its own number, and is in what it has seen,
  pub own : Live v → entries_of pass_of v.range.first journal ≡ entries_of pass_of v.range.first v.seen
  pub fresh : (n : ℕ) → v.range.first < n → n < v.range.end → entries_of pass_of n journal ≡ []
  -- and already in what it had seen at its last step.
  pub held : Live v → entries_of pass_of v.range.first journal ≡ entries_of pass_of v.range.first v.acted
  -- A page of its book is complete: it is a beginning of the journal, and has all entries that bear its number.
  pub pages : (k : ℕ) (p : Page E) → get_elem? v.book k ≡ some p → Among v.taken p.number × Begins p.seen journal × (entries_of pass_of p.number journal ≡ entries_of pass_of p.number p.seen)
  -- The numbers that it holds and those that it took in are apart, and below 2^32.
  pub inner : (n : ℕ) → InRange n v.range → Among v.taken n → ⊥
  pub within : v.range.end ≤ 2 ^ 32
  pub taken_within : (n : ℕ) → Among v.taken n → n < 2 ^ 32
  -- Only a live pass has a ticket.
  pub able : tickets_held v ≤ numbers v

module _ {T E : Type 0} (serving tickets : ℕ) (homes : List (maybe.Option (Option T))) (journal seen : List E) where
  -- Where a pass's ticket stands. One that has the slot is served, below 2^63, and has seen the journal
  abbrev pub InTurn : Stage → Type 0
  InTurn Idle = Unit {0}
  InTurn (Waits t) = (serving ≤ t) × (t < tickets)
  InTurn (Holds t) = (serving ≡ t) × (t < tickets) × (t < 2 ^ 63) × (homes ≡ none ∷ []) × (seen ≡ journal)

-- the slot has a value with this journal and this fixed part
abbrev pub IsHome : {T F E : Type 0} → (T → F) → (T → List E) → F → List E → List (maybe.Option (Option T)) → Type 0
IsHome {T} fixed entries fix journal homes = (x : T) × (homes ≡ some (Some x) ∷ []) × (entries x ≡ journal) × (fixed x ≡ fix)

-- the pass whose ticket is served has the slot
abbrev pub IsOut : {T F E : Type 0} → ℕ → List (maybe.Option (Option T)) → List (View F E) → Type 0
IsOut {T} {F} {E} serving homes views = (j : ℕ) × (v : View F E) × (get_elem? views j ≡ some v) × (v.stage ≡ Holds serving) × (homes ≡ none ∷ [])

module _ {T F E : Type 0} (ticket_of pass_of : E → ℕ) (fixed : T → F) (entries : T → List E) (legal : F → List E → Type 0) where
  -- The rule of a desk whose value was opened with the fixed part `fix`
  pub record TakesTurns (fix : F) (s : State (Option T) (View F E)) : Type 0 where
    -- Word 0 is SERVING, the ticket that is served, and word 1 is TICKETS, the next one to be drawn. There is a journal.
    pub serving : ℕ
    pub tickets : ℕ
    pub journal : List E
    pub words : s.words ≡ serving ∷ tickets ∷ []
    -- The tickets from SERVING up to TICKETS are held by one pass each: each pass's is among them, no two have the same, and there are as many.
    pub turn : (j : ℕ) (v : View F E) → get_elem? s.views j ≡ some v → InTurn serving tickets s.homes journal v.seen v.stage
    pub turns : (i j : ℕ) (v w : View F E) (t : ℕ) → get_elem? s.views i ≡ some v → get_elem? s.views j ≡ some w → HasTicket v.stage t → HasTicket w.stage t → i ≡ j
    pub counted : serving + total tickets_held s.views ≡ tickets
    -- The value is home, its entries are the journal and its fixed part is the opening's, unless the pass whose ticket is served has the slot; then the journal is what that pass has seen.
    pub slot : IsHome fixed entries fix journal s.homes ⊎ IsOut serving s.homes s.views
    -- The journal is legal. Its tickets rise, and each is below SERVING.
    pub lawful : legal fix journal
    pub rises : Rises ticket_of journal
    pub below : Below ticket_of serving journal
    -- What each pass knows is true of the journal.
    pub each : (j : ℕ) (v : View F E) → get_elem? s.views j ≡ some v → Agrees pass_of fix journal v
    -- No number is covered by two passes.
    pub apart : (i j : ℕ) (v w : View F E) (n : ℕ) → get_elem? s.views i ≡ some v → get_elem? s.views j ≡ some w → Covers v n → Covers w n → i ≡ j
    -- Every entry bears the number of a live pass, or of a page in a pass's book.
    pub borne : (k : ℕ) (e : E) → get_elem? journal k ≡ some e → (j : ℕ) × (v : View F E) × (get_elem? s.views j ≡ some v) × Bears v (pass_of e)
    -- TICKETS doesn't wrap: it is SERVING and one for each pass with a ticket, and the passes hold at most 2^32 numbers.
    pub limit : serving ≤ 2 ^ 63
    pub summed : total numbers s.views ≤ 2 ^ 32
