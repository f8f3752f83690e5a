-- What a call says, and what a closed desk's value is.
use Rattle.std.specs.Prelude.{◌^◌, ◌≡◌, ℕ, ◌<◌, ◌≤◌, List, [], ◌∷◌, ◌++◌, Option, Some, None}
use mathlib.Core.Option.{some}
use lib.ListN.{get_elem?}
use Rattle.atomic_table.specs.Table.{Me}
use Rattle.ss_desk.specs.declared.journaled.Full.{Full}
use Rattle.ss_desk.specs.declared.view.View.{View}
use Rattle.ss_desk.specs.declared.view.Stage.TheVariants.{Idle}
use Rattle.ss_desk.specs.declared.view.Page.{Page}
use Rattle.ss_desk.specs.Journal.{entries_of, Begins, Rises}
use Rattle.ss_desk.specs.Views.{range_of, view_after_step, Bears}

-- a pass between two calls holds the numbers from `first` on and below `end`, at least one, and no slot
abbrev pub Rests : {T F E : Type 0} → ℕ → ℕ → Me (Option T) (View F E) → Type 0
Rests first end m = (m.1 ≡ []) × (m.0.stage ≡ Idle) × (m.0.range ≡ range_of first end) × (first < end) × (end ≤ 2 ^ 32)

module _ {F E A R : Type 0} (ticket_of pass_of : E → ℕ) (ask_of : E → A) (legal : F → List E → Type 0) (replies : F → List E → R → Type 0) (full : F → List E → Option Full) where
  -- A call that was entered, by a pass that knew v and now knows w: it has seen the journal up to this call
  pub record EntersCall (v w : View F E) (ticket : ℕ) (ask : A) (reply : R) : Type 0 where
    -- The journal begins with all that was seen and ends with this call, and the entries in between are others'.
    pub between : List E
    pub entry : E
    pub view : w ≡ view_after_step v Idle ((v.seen ++ between) ++ entry ∷ [])
    pub others : entries_of pass_of v.range.first between ≡ []
    pub drawn : ticket_of entry ≡ ticket
    pub number : pass_of entry ≡ v.range.first
    pub asked : ask_of entry ≡ ask
    -- It is legal, for the fixed part of the opening. Its tickets rise.
    pub fix : F
    pub same : v.fixed ≡ Some fix
    pub lawful : legal fix w.seen
    pub rises : Rises ticket_of w.seen
    -- The reply is the one at the call's place, before which the journal had room.
    pub answered : replies fix w.seen reply
    pub had_room : full fix (v.seen ++ between) ≡ None

module _ {F E : Type 0} (ticket_of pass_of : E → ℕ) (legal : F → List E → Type 0) (full : F → List E → Option Full) where
  -- A call that was answered `Full`, by a pass that knew v and now knows w: it has seen the journal at that moment
  pub record DeniesCall (v w : View F E) (answer : Full) : Type 0 where
    -- The journal begins with all that was seen, and has no entry of this call: the new entries are others'.
    pub between : List E
    pub view : w ≡ view_after_step v Idle (v.seen ++ between)
    pub others : entries_of pass_of v.range.first between ≡ []
    -- It is legal, for the fixed part of the opening. Its tickets rise.
    pub fix : F
    pub same : v.fixed ≡ Some fix
    pub lawful : legal fix w.seen
    pub rises : Rises ticket_of w.seen
    -- It is full, with these two numbers.
    pub refused : full fix w.seen ≡ Some answer

-- The value x that a desk leaves where it was closed by a pass that knew v
pub record IsValueAtClose {T F E : Type 0} (ticket_of pass_of : E → ℕ) (fixed : T → F) (entries : T → List E) (legal : F → List E → Type 0) (v : View F E) (x : T) : Type 0 where
  -- Its fixed part is the opening's. Its entries are a legal journal, whose tickets rise.
  pub same : v.fixed ≡ Some (fixed x)
  pub lawful : legal (fixed x) (entries x)
  pub rises : Rises ticket_of (entries x)
  -- They begin with what the pass had seen.
  pub known : Begins v.seen (entries x)
  -- Those with its number are in what it had seen, and already in what it had seen at its last step.
  pub own : entries_of pass_of v.range.first (entries x) ≡ entries_of pass_of v.range.first v.seen
  pub held : entries_of pass_of v.range.first (entries x) ≡ entries_of pass_of v.range.first v.acted
  -- They begin with each page of its book, which has all entries with the page's number.
  pub pages : (k : ℕ) (p : Page E) → get_elem? v.book k ≡ some p → Begins p.seen (entries x) × (entries_of pass_of p.number (entries x) ≡ entries_of pass_of p.number p.seen)
  -- There are no others: each bears the pass's number, or that of a page.
  pub no_others : (k : ℕ) (e : E) → get_elem? (entries x) k ≡ some e → Bears v (pass_of e)
