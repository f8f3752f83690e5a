-- Exchanges of a device, one after the other and between events of others, as steps of a world (this project).
use Rattle.std.specs.Prelude.{◌≡◌, ℕ, List, [], ◌∷◌, ◌++◌, slice_get, Some, ⊤}
use Rattle.ss_route.specs.declared.manner.Manner.{Manner}
use Rattle.ss_route.specs.Sending.{HasTypes}
use Rattle.ss_client.specs.Asking.{ask}
use Rattle.ss_client.specs.Machine.{Next}
use Rattle.ss_client.specs.Runs.{MachineView}
use Rattle.ss_client.specs.Sound.{IsSound}
use Rattle.ss_serving.specs.Bookmarks.{Server}
use Rattle.ss_world.specs.declared.events.Event.TheVariants.{Deliver, LoseReply}
use Rattle.ss_world.specs.declared.seats.Seat.TheVariants.{Idle, Syncs}
use Rattle.ss_world.specs.Happening.{Happens, Step}
use Rattle.ss_world.specs.Seats.{after}
use Rattle.ss_world.specs.Worlds.{WorldView, world_with_seat}
use Rattle.ss_promises.specs.Exchanges.{Address, IsMeantAlike, IsTellable, Proceeds, Responds, bytes_sent}
use Rattle.ss_promises.specs.Readable.{IsReadableRun}

-- each machine of a world can send its request, and a server can read it
abbrev pub AreReady : WorldView → Type 0
AreReady w = (n : ℕ) (machine : MachineView) → slice_get w.seats n ≡ Some (Syncs machine) → IsSound machine.run machine.stage × IsReadableRun machine.run machine.stage

-- a device of a world sends the request of its machine, which has the values of its types, to its server, and this answers what it reads
pub record AsksServer (manner : Manner) (address : Address) (n : ℕ) (w : WorldView) (now : ℕ) : Type 0 where
  pub machine : MachineView
  pub there : slice_get w.seats n ≡ Some (Syncs machine)
  pub typed : HasTypes (ask machine)
  pub alike : IsMeantAlike manner w.server.account now (ask machine)
  pub behind : List ℕ
  pub server : Server
  pub output : List ℕ
  pub responds : Responds manner (bytes_sent address machine ++ behind) w.server now server output

-- and its machine does what it does with the response
pub record IsExchange (manner : Manner) (address : Address) (n : ℕ) (w : WorldView) (now : ℕ) (v : WorldView) : Type 0 where
  pub asked : AsksServer manner address n w now
  pub tellable : IsTellable w.server.account now asked.machine
  pub more : List ℕ
  pub next : Next
  pub proceeds : Proceeds asked.machine (asked.output ++ more) next
  pub is : v ≡ world_with_seat w asked.server n (after asked.machine next)

-- or it doesn't hear it, and is as it was started
pub record IsUnheard (manner : Manner) (address : Address) (n : ℕ) (w : WorldView) (now : ℕ) (v : WorldView) : Type 0 where
  pub asked : AsksServer manner address n w now
  pub is : v ≡ world_with_seat w asked.server n (Idle asked.machine.device)

-- a step of devices that ask servers of their account at this address: an exchange, heard or not, or any other event
pub data IsTurn (manner : Manner) (address : Address) (w : WorldView) (step : Step) : Type 0 where
  exchanged : (n now : ℕ) → step.event ≡ Deliver n now → IsExchange manner address n w now step.world → IsTurn manner address w step
  unheard : (n now : ℕ) → step.event ≡ LoseReply n now → IsUnheard manner address n w now step.world → IsTurn manner address w step
  other : Happens w step.event step.world → IsTurn manner address w step

-- such steps, one after the other
abbrev pub AreTurns : Manner → Address → WorldView → List Step → Type 0
AreTurns manner address w [] = ⊤
AreTurns manner address w (step ∷ steps) = IsTurn manner address w step × AreTurns manner address step.world steps
