-- What a step of a machine and its last call say.
use Rattle.std.specs.Prelude.{◌≡◌, ◌⊎◌, ℕ, ◌<◌, nat_lt, Bool, true, false, [], length, ⊤}
use Rattle.ss_query.specs.Fit.{IsFitRequest}
use Rattle.ss_route.specs.Sending.{IsSentRequest}
use Rattle.ss_query.specs.declared.requests.Request.{Request}
use Rattle.ss_device.specs.Device.{DeviceView}
use Rattle.ss_hearing.specs.Hearing.{status_of}
use Rattle.ss_hearing.specs.declared.answer.Awaited.{Awaited}
use Rattle.ss_hearing.specs.declared.answer.Awaited.TheVariants as awaited
use Rattle.ss_hearing.specs.declared.answer.Answer.{Answer}
use Rattle.ss_hearing.specs.declared.answer.Answer.TheVariants.{Configured, Paged, Listed, Held, Written, Changed}
use Rattle.ss_client.specs.declared.runs.Run.{Run}
use Rattle.ss_client.specs.declared.runs.Stage.{Stage}
use Rattle.ss_client.specs.declared.machine.Do.{Do}
use Rattle.ss_client.specs.declared.machine.Do.TheVariants as answer
use Rattle.ss_client.specs.declared.steps.Step.{Step}
use Rattle.ss_client.specs.declared.steps.Step.TheVariants as step
use Rattle.ss_client.specs.declared.summaries.SyncFault.TheVariants.{Memory}
use Rattle.ss_client.specs.Runs.{MachineView}
use Rattle.ss_client.specs.Asking.{ask, awaits}
use Rattle.ss_client.specs.Machine.{Next, Send, Done, Stop}
use Rattle.ss_client.specs.Bounds.{to_follow}

-- what a step says
abbrev pub next_of_step : Step → Next
next_of_step (step.Send run stage) = Send run stage
next_of_step (step.Done synced summary) = Done (record { tree = synced.tree; dead = []; mirror = synced.mirror; stamp = synced.stamp }) summary
next_of_step (step.Stop fault) = Stop fault

-- what a call of a machine of this device says, of which this must hold: the device is as it was started until the run is done,
-- a request is what the machine then asks, and a stop for want of memory may always come
abbrev pub Says : DeviceView → (Next → Type 0) → Do → Type 0
Says d P (answer.Send machine request) = (machine.device ≡ d) × P (Send machine.run machine.stage) × (request ≡ ask machine)
Says d P (answer.Done device summary) = P (Done device summary)
Says d P (answer.Stop device fault) = (device ≡ d) × ((fault ≡ Memory) ⊎ P (Stop fault))

-- a request that a client writes, and that a server takes
abbrev pub CanSend : Request → Type 0
CanSend request = IsSentRequest request × IsFitRequest request

-- this holds of the request, where one follows
abbrev pub OnSend : Do → (Request → Type 0) → Type 0
OnSend (answer.Send machine request) P = P request
OnSend (answer.Done device summary) P = ⊤
OnSend (answer.Stop device fault) P = ⊤

-- An answer on which a run may go on, or be done: one of the kind that the stage awaits, or a change that isn't the fourth. On each
-- other one the run stops by itself, which takes no memory.
abbrev pub is_of : Awaited → Answer → Bool
is_of awaited.Configuration (Configured limits) = true
is_of awaited.FirstPage (Paged rows offset time) = true
is_of awaited.LaterPage (Paged rows offset time) = true
is_of awaited.AllIds (Listed ids) = true
is_of awaited.Staging (Held batch) = true
is_of awaited.Writing (Written stamp) = true
is_of kind said = false

abbrev pub leads_on : Run → Stage → Answer → Bool
leads_on run stage (Changed time) = nat_lt (length run.changes) 3
leads_on run stage said = is_of (awaits stage) said

-- what is done with a response takes memory: its body is read, as it has the awaited status, or a run may go on with it
abbrev pub TakesMemory : MachineView → ℕ → Answer → Type 0
TakesMemory m status said = (status ≡ status_of (awaits m.stage)) ⊎ (leads_on m.run m.stage said ≡ true)

-- this holds where the run stops for want of memory
abbrev pub OnWant : Do → Type 0 → Type 0
OnWant (answer.Send machine request) P = ⊤
OnWant (answer.Done device summary) P = ⊤
OnWant (answer.Stop device fault) P = fault ≡ Memory → P

-- where a request follows, fewer may follow it than before
abbrev pub ComesNearer : MachineView → Do → Type 0
ComesNearer m (answer.Send machine request) = to_follow machine.run machine.stage < to_follow m.run m.stage
ComesNearer m (answer.Done device summary) = ⊤
ComesNearer m (answer.Stop device fault) = ⊤
