-- What comes of a script, over a world (this project's).
use Rattle.std.specs.Prelude.{◌≡◌, ℕ, ◌+◌, ◌*◌, List, [], ◌∷◌, ◌++◌, length, map, slice_get, Some, Bool, true, false}
use Rattle.std.specs.Prelude.{if◌then◌else◌}
use Rattle.ss_hearing.specs.declared.answer.Awaited.{Awaited}
use Rattle.ss_hearing.specs.declared.answer.Awaited.TheVariants.{Staging, Writing}
use Rattle.ss_device.specs.Device.{DeviceView}
use Rattle.ss_client.specs.Runs.{MachineView}
use Rattle.ss_client.specs.Asking.{awaits}
use Rattle.ss_client.specs.declared.summaries.Fetch.TheVariants.{Newer}
use Rattle.ss_world.specs.declared.events.Edit.{Edit}
use Rattle.ss_world.specs.declared.events.Event.{Event}
use Rattle.ss_world.specs.declared.events.Event.TheVariants.{Deliver, Start}
use Rattle.ss_world.specs.Worlds.{WorldView}
use Rattle.ss_world.specs.declared.seats.Seat.{Seat}
use Rattle.ss_world.specs.declared.seats.Seat.TheVariants.{Idle, Syncs}
use Rattle.ss_world.specs.Happening.{Happens, Runs, Step, last}
use Rattle.ss_rehearse.specs.Scripts.{Act, changes, sync, change_events}

-- a world; what the clock reads next, in hundredths of a second; and how many POSTs each sync sent
pub record PlayView : Type 0 where
  pub world : WorldView
  pub now : ℕ
  pub posts : List ℕ

-- the events of a run
abbrev pub events_of : List Step → List Event
events_of steps = map (λ step. step.event) steps

-- ---- syncs

-- the reply to a POST is awaited
abbrev pub is_post : Awaited → Bool
is_post Staging = true
is_post Writing = true
is_post _ = false

abbrev pub once : Bool → ℕ
once b = if b then 1 else 0

-- the device of a number has no request under way
abbrev pub IsIdle : ℕ → WorldView → Type 0
IsIdle n w = (s : Seat) → slice_get w.seats n ≡ Some s → (d : DeviceView) × (s ≡ Idle d)

-- Requests of a device come to the account, one after the other, at a clock that reads 100 more each time: before each the device has a
-- request under way. So many of them are POSTs.
abbrev pub Asks : ℕ → ℕ → WorldView → List Step → ℕ → WorldView → Type 0
Asks n now w [] posts v = (v ≡ w) × (posts ≡ 0)
Asks n now w (step ∷ steps) posts v =
    (m : MachineView) × (slice_get w.seats n ≡ Some (Syncs m)) × (step.event ≡ Deliver n now) × Happens w step.event step.world
    × (rest : ℕ) × (posts ≡ once (is_post (awaits m.stage)) + rest) × Asks n (now + 100) step.world steps rest v

-- a sync: the device starts, and its requests come to the account until it has none under way
pub record IsSync (n now : ℕ) (w : WorldView) (steps : List Step) (posts : ℕ) (v : WorldView) : Type 0 where
  pub started : WorldView
  pub requests : List Step
  pub starts : Happens w (Start n Newer) started
  pub steps_are : steps ≡ record { event = Start n Newer; world = started } ∷ requests
  pub asks : Asks n now started requests posts v
  pub ends : IsIdle n v

-- ---- plays

-- the events lead from a world to another one
pub record Leads (w : WorldView) (steps : List Step) (v : WorldView) : Type 0 where
  pub runs : Runs w steps
  pub here : last w steps ≡ v

-- changes of a device, from a reading of the clock on: the first of them at it; what the clock reads next
pub record PlaysChanges (n now : ℕ) (w : WorldView) (edits : List Edit) (steps : List Step) (v : WorldView) (next : ℕ) : Type 0 where
  pub leads : Leads w steps v
  pub events : events_of steps ≡ change_events now n edits
  pub next_is : next ≡ now + 100 * length edits

-- a sync of a device, from a reading of the clock on; the POSTs that it sent, and what the clock reads next
pub record PlaysSync (n now : ℕ) (w : WorldView) (steps : List Step) (posts : ℕ) (v : WorldView) (next : ℕ) : Type 0 where
  pub syncs : IsSync n now w steps posts v
  pub next_is : next ≡ now + 100 * length syncs.requests

-- what an act makes of a play, by these events
abbrev pub Acts : PlayView → Act → List Step → PlayView → Type 0
Acts p (changes n edits) steps q = PlaysChanges n p.now p.world edits steps q.world q.now × (q.posts ≡ p.posts)
Acts p (sync n) steps q = (sent : ℕ) × PlaysSync n p.now p.world steps sent q.world q.now × (q.posts ≡ p.posts ++ sent ∷ [])

-- what acts make of a play, one after the other
abbrev pub Plays : PlayView → List Act → List Step → PlayView → Type 0
Plays p [] steps q = (steps ≡ []) × (q ≡ p)
Plays p (act ∷ acts) steps q =
    (first : List Step) × (rest : List Step) × (u : PlayView) × (steps ≡ first ++ rest) × Acts p act first u × Plays u acts rest q
