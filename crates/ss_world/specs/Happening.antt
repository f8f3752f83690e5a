-- What each event makes of a world (this project). An event that is refused leaves it.
use Rattle.std.specs.Prelude.{◌≡◌, ℕ, List, [], ◌∷◌, slice_get, Option, MatchOption, ⊤}
use Rattle.std.specs.Bool.{MatchBool}
use Rattle.ss_query.specs.declared.requests.Request.{Request}
use Rattle.ss_query.specs.Api.{api}
use Rattle.ss_tree.specs.Entries.{IsTree, tree}
use Rattle.ss_device.specs.Device.{DeviceView, IsDevice}
use Rattle.ss_device.specs.Edits.{AddsItem, RenamesItem, MovesItem, DeletesItem, add_fault, change_fault, move_fault}
use Rattle.ss_device.specs.declared.faults.EditFault.{EditFault}
use Rattle.ss_client.specs.declared.summaries.Fetch.{Fetch}
use Rattle.ss_client.specs.declared.runs.Stage.TheVariants.{Asks}
use Rattle.ss_client.specs.Runs.{MachineView, first_run, is_newer}
use Rattle.ss_client.specs.Asking.{ask, awaits}
use Rattle.ss_client.specs.Machine.{Next, Follows}
use Rattle.ss_serving.specs.Bookmarks.{Server}
use Rattle.ss_serving.specs.Asking.{told_by, touches}
use Rattle.ss_serving.specs.Steps.{Answers, Ticks, Reopens}
use Rattle.ss_world.specs.declared.events.Edit.{Edit}
use Rattle.ss_world.specs.declared.events.Edit.TheVariants as edits
use Rattle.ss_world.specs.declared.events.Event.{Event}
use Rattle.ss_world.specs.declared.events.Event.TheVariants.{Start, Deliver, LoseRequest, LoseReply, Anew, Change}
use Rattle.ss_world.specs.declared.events.Event.TheVariants.{Other, Tick, Reopen}
use Rattle.ss_world.specs.Seats.{after}
use Rattle.ss_world.specs.Worlds.{Seat, Idle, Syncs, WorldView, world_with_seat}

-- ---- edits

-- why an edit of a device is refused
abbrev pub edit_fault : DeviceView → Edit → Option EditFault
edit_fault d (edits.Add parent item) = add_fault (tree d.tree) parent item.id
edit_fault d (edits.Rename id title) = change_fault (tree d.tree) id
edit_fault d (edits.Move id parent) = move_fault (tree d.tree) id parent
edit_fault d (edits.Delete id) = change_fault (tree d.tree) id

-- what an edit makes of a device
abbrev pub ChangesDevice : ℕ → Edit → DeviceView → DeviceView → Type 0
ChangesDevice now (edits.Add parent item) old new = AddsItem now parent item old new
ChangesDevice now (edits.Rename id title) old new = RenamesItem now id title old new
ChangesDevice now (edits.Move id parent) old new = MovesItem now id parent old new
ChangesDevice now (edits.Delete id) old new = DeletesItem now id old new

-- an idle device is edited; the entries of its tree are one
pub record Edits (w : WorldView) (n now : ℕ) (edit : Edit) (d : DeviceView) (v : WorldView) : Type 0 where
  pub device : DeviceView
  pub changed : ChangesDevice now edit d device
  pub valid : IsDevice device
  pub is_tree : IsTree device.tree
  pub is : v ≡ world_with_seat w w.server n (Idle device)

-- ---- a device's request

-- The account answers what the machine asks, and the machine does with the answer what its definition says.
pub record Delivers (w : WorldView) (n now : ℕ) (m : MachineView) (v : WorldView) : Type 0 where
  pub server : Server
  pub answers : Answers w.server now (ask m) server
  pub next : Next
  pub follows : Follows m.device m.run m.stage (told_by (awaits m.stage) (api w.server.account now (ask m)).reply) next
  pub is : v ≡ world_with_seat w server n (after m next)

-- The account answers, and the device doesn't hear it: it is as it was started.
pub record Loses (w : WorldView) (n now : ℕ) (m : MachineView) (v : WorldView) : Type 0 where
  pub server : Server
  pub answers : Answers w.server now (ask m) server
  pub is : v ≡ world_with_seat w server n (Idle m.device)

-- somebody else asks
pub record AsksElsewhere (w : WorldView) (now : ℕ) (request : Request) (v : WorldView) : Type 0 where
  pub server : Server
  pub answers : Answers w.server now request server
  pub is : v ≡ record w { server = server }

pub record ReadsClock (w : WorldView) (now : ℕ) (v : WorldView) : Type 0 where
  pub server : Server
  pub ticks : Ticks w.server now server
  pub is : v ≡ record w { server = server }

pub record OpensAnew (w v : WorldView) : Type 0 where
  pub server : Server
  pub reopens : Reopens w.server server
  pub is : v ≡ record w { server = server }

-- ---- each event, at an idle device and at one that syncs

abbrev pub Starts : WorldView → ℕ → Fetch → WorldView → Seat → Type 0
Starts w n fetch v (Idle d) = v ≡ world_with_seat w w.server n (Syncs (record { device = d; run = first_run (is_newer d fetch); stage = Asks }))
Starts w n fetch v (Syncs m) = v ≡ w

abbrev pub DeliversAtSeat : WorldView → ℕ → ℕ → WorldView → Seat → Type 0
DeliversAtSeat w n now v (Idle d) = v ≡ w
DeliversAtSeat w n now v (Syncs m) = Delivers w n now m v

abbrev pub IsGivenUp : WorldView → ℕ → WorldView → Seat → Type 0
IsGivenUp w n v (Idle d) = v ≡ w
IsGivenUp w n v (Syncs m) = v ≡ world_with_seat w w.server n (Idle m.device)

abbrev pub IsLost : WorldView → ℕ → ℕ → WorldView → Seat → Type 0
IsLost w n now v (Idle d) = v ≡ w
IsLost w n now v (Syncs m) = Loses w n now m v

abbrev pub EditsAtSeat : WorldView → ℕ → ℕ → Edit → WorldView → Seat → Type 0
EditsAtSeat w n now edit v (Idle d) = MatchOption (edit_fault d edit) (Edits w n now edit d v) (λ fault. v ≡ w)
EditsAtSeat w n now edit v (Syncs m) = v ≡ w

-- where there is no device of a number, nothing happens
abbrev pub At : WorldView → ℕ → WorldView → (Seat → Type 0) → Type 0
At w n v P = MatchOption (slice_get w.seats n) (v ≡ w) P

-- what an event makes of a world
abbrev pub Happens : WorldView → Event → WorldView → Type 0
Happens w (Start n fetch) v = At w n v (Starts w n fetch v)
Happens w (Deliver n now) v = At w n v (DeliversAtSeat w n now v)
Happens w (LoseRequest n) v = At w n v (IsGivenUp w n v)
Happens w (LoseReply n now) v = At w n v (IsLost w n now v)
Happens w (Anew n) v = At w n v (IsGivenUp w n v)
Happens w (Change n now edit) v = At w n v (EditsAtSeat w n now edit v)
Happens w (Other now request) v = MatchBool (touches request) (v ≡ w) (AsksElsewhere w now request v)
Happens w (Tick now) v = ReadsClock w now v
Happens w Reopen v = OpensAnew w v

-- an event, and the world after it
pub record Step : Type 0 where
  pub event : Event
  pub world : WorldView

-- a run of a world: one event after the other
abbrev pub Runs : WorldView → List Step → Type 0
Runs w [] = ⊤
Runs w (step ∷ steps) = Happens w step.event step.world × Runs step.world steps

-- the world at the end of a run
abbrev pub last : WorldView → List Step → WorldView
last w [] = w
last w (step ∷ steps) = last step.world steps
