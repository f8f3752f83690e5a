-- When an event is refused, and what a step leaves (this project).
use Rattle.std.specs.Prelude.{◌≡◌, ◌⊎◌, ℕ, List, set, slice_get, Option, Some, None, option_map, if◌then◌else◌, true, ⊤}
use Rattle.std.specs.Option.{option_map_or}
use Rattle.ss_hearing.specs.declared.answer.Answer.{Answer}
use Rattle.ss_tree.specs.Entries.{IsTree, tree}
use Rattle.ss_device.specs.Device.{DeviceView, IsDevice}
use Rattle.ss_device.specs.Edits.{change_fault as item_fault}
use Rattle.ss_device.specs.declared.faults.EditFault.{EditFault}
use Rattle.ss_device.specs.declared.faults.EditFault.TheVariants.{NoItem, NotFolder, Twice, Root, Under, Memory}
use Rattle.ss_client.specs.declared.summaries.Fetch.{Fetch}
use Rattle.ss_client.specs.Machine.{Next, Follows}
use Rattle.ss_client.specs.Asking.{ask, awaits}
use Rattle.ss_client.specs.Told.{TakesMemory, leads_on}
use Rattle.ss_query.specs.Api.{api}
use Rattle.ss_query.specs.Fit.{IsFitRequest}
use Rattle.ss_serving.specs.Asking.{told_by, touches}
use Rattle.ss_world.specs.declared.events.Edit.{Edit}
use Rattle.ss_world.specs.declared.events.Edit.TheVariants as edits
use Rattle.ss_world.specs.declared.events.Event.{Event}
use Rattle.ss_world.specs.declared.events.Event.TheVariants.{Start, Deliver, LoseRequest, LoseReply, Anew, Change}
use Rattle.ss_world.specs.declared.events.Event.TheVariants.{Other, Tick, Reopen}
use Rattle.ss_world.specs.declared.faults.WorldFault.{WorldFault}
use Rattle.ss_world.specs.declared.faults.WorldFault.TheVariants as fault
use Rattle.ss_world.specs.Seats.{after, device_of, seat_after_start}
use Rattle.ss_world.specs.Worlds.{Seat, Idle, Syncs, WorldView}
use Rattle.ss_world.specs.Happening.{At, ChangesDevice, Loses, ReadsClock, edit_fault}

-- ---- causes

-- a request's fate needs a request under way
abbrev pub request_fault : ℕ → Seat → Option WorldFault
request_fault n (Idle d) = Some (fault.Idle n)
request_fault n (Syncs m) = None

-- a sync begins where none is under way
abbrev pub start_fault : ℕ → Seat → Option WorldFault
start_fault n (Idle d) = None
start_fault n (Syncs m) = Some (fault.Busy n)

-- a change is made where no sync is under way, by the rules of edits
abbrev pub change_fault : ℕ → Edit → Seat → Option WorldFault
change_fault n edit (Idle d) = option_map fault.Edit (edit_fault d edit)
change_fault n edit (Syncs m) = Some (fault.Busy n)

-- the device has to be there
abbrev pub at_device : List Seat → ℕ → (Seat → Option WorldFault) → Option WorldFault
at_device seats n why = option_map_or why (slice_get seats n) (Some (fault.NoDevice n))

-- why an event is refused, if it is
abbrev pub fault_of : WorldView → Event → Option WorldFault
fault_of w (Start n fetch) = at_device w.seats n (start_fault n)
fault_of w (Deliver n now) = at_device w.seats n (request_fault n)
fault_of w (LoseRequest n) = at_device w.seats n (request_fault n)
fault_of w (LoseReply n now) = at_device w.seats n (request_fault n)
fault_of w (Anew n) = at_device w.seats n (request_fault n)
fault_of w (Change n now edit) = at_device w.seats n (change_fault n edit)
fault_of w (Other now request) = if touches request then Some fault.Touches else None
fault_of w (Tick now) = None
fault_of w Reopen = None

-- the refusal of an edit is handed on, and want of memory told as such
abbrev pub edit_refusal : EditFault → WorldFault
edit_refusal Memory = fault.Memory
edit_refusal NoItem = fault.Edit NoItem
edit_refusal NotFolder = fault.Edit NotFolder
edit_refusal Twice = fault.Edit Twice
edit_refusal Root = fault.Edit Root
edit_refusal Under = fault.Edit Under

-- ---- want of memory

-- Why an edit is refused before it takes memory, if it is: its item isn't there, or is a root. To add an item takes memory first, and
-- so does it to look for the folder that one is moved to.
abbrev pub tested_edit : DeviceView → Edit → Option EditFault
tested_edit d (edits.Add parent item) = None
tested_edit d (edits.Rename id title) = item_fault (tree d.tree) id
tested_edit d (edits.Move id parent) = item_fault (tree d.tree) id
tested_edit d (edits.Delete id) = item_fault (tree d.tree) id

abbrev pub tested_change : ℕ → Edit → Seat → Option WorldFault
tested_change n edit (Idle d) = option_map fault.Edit (tested_edit d edit)
tested_change n edit (Syncs m) = Some (fault.Busy n)

-- the causes that are looked for before any memory is taken: all but those of an edit that takes some first
abbrev pub tested_fault : WorldView → Event → Option WorldFault
tested_fault w (Change n now edit) = at_device w.seats n (tested_change n edit)
tested_fault w event = fault_of w event

-- the account answers a device's request, and the reply is lost, which takes memory to hand on, or with which the run might go on
abbrev pub IsUnheard : WorldView → ℕ → ℕ → WorldView → Seat → Type 0
IsUnheard w n now v (Idle d) = v ≡ w
IsUnheard w n now v (Syncs m) =
    Loses w n now m v × TakesMemory m (api w.server.account now (ask m)).reply.status (told_by (awaits m.stage) (api w.server.account now (ask m)).reply)

-- Where memory is wanting the world is as before; or the account answered that it was wanting (507), and has read its clock alone;
-- or the reply couldn't be handed on to the device, and is lost. It is never wanting where a sync begins or is given up, or the clock
-- is read: these take none.
abbrev pub IsCutShort : WorldView → Event → WorldView → Type 0
IsCutShort w (Deliver n now) v = (v ≡ w) ⊎ (ReadsClock w now v ⊎ At w n v (IsUnheard w n now v))
IsCutShort w (LoseReply n now) v = (v ≡ w) ⊎ ReadsClock w now v
IsCutShort w (Other now request) v = (v ≡ w) ⊎ ReadsClock w now v
IsCutShort w (Start n fetch) v = ⊥
IsCutShort w (LoseRequest n) v = ⊥
IsCutShort w (Anew n) v = ⊥
IsCutShort w (Change n now edit) v = v ≡ w
IsCutShort w (Tick now) v = ⊥
IsCutShort w Reopen v = v ≡ w

-- memory was wanting: the causes that come before had been looked for, and this is left
pub record IsWanting (w : WorldView) (event : Event) (v : WorldView) : Type 0 where
  pub tested : tested_fault w event ≡ None
  pub left : IsCutShort w event v

-- ---- a step

-- an event that is refused for this leaves the world
pub record Refuses (w : WorldView) (event : Event) (e : WorldFault) (v : WorldView) : Type 0 where
  pub cause : fault_of w event ≡ Some e
  pub left : v ≡ w

-- what a step leaves that answers a fault: memory was wanting, or the event is refused for this
abbrev pub Fails : WorldView → Event → WorldView → WorldFault → Type 0
Fails w event v e = ((e ≡ fault.Memory) × IsWanting w event v) ⊎ Refuses w event e v

-- what others ask is within the limits of one request
abbrev pub IsFitEvent : Event → Type 0
IsFitEvent (Other now request) = IsFitRequest request
IsFitEvent (Start n fetch) = ⊤
IsFitEvent (Deliver n now) = ⊤
IsFitEvent (LoseRequest n) = ⊤
IsFitEvent (LoseReply n now) = ⊤
IsFitEvent (Anew n) = ⊤
IsFitEvent (Change n now edit) = ⊤
IsFitEvent (Tick now) = ⊤
IsFitEvent Reopen = ⊤

-- ---- a seat

-- what a device is after its machine has heard an answer
abbrev pub HearsAtSeat : Answer → Seat → Seat → Type 0
HearsAtSeat answer new (Idle d) = new ≡ Idle d
HearsAtSeat answer new (Syncs m) = (next : Next) × Follows m.device m.run m.stage answer next × (new ≡ after m next)

-- an answer with which the run of a device might go on
abbrev pub LeadsOn : Answer → Seat → Type 0
LeadsOn answer (Idle d) = ⊥
LeadsOn answer (Syncs m) = leads_on m.run m.stage answer ≡ true

-- a device that has no sync under way is edited
pub record IsEditOf (now : ℕ) (edit : Edit) (new : Seat) (d : DeviceView) : Type 0 where
  pub device : DeviceView
  pub taken : edit_fault d edit ≡ None
  pub changed : ChangesDevice now edit d device
  pub valid : IsDevice device
  pub is_tree : IsTree device.tree
  pub is : new ≡ Idle device

abbrev pub IsEditedSeat : ℕ → Edit → Seat → Seat → Type 0
IsEditedSeat now edit new (Idle d) = IsEditOf now edit new d
IsEditedSeat now edit new (Syncs m) = ⊥

-- ---- the seats

-- a device's sync is given up
abbrev pub GivesUp : List Seat → ℕ → List Seat → Type 0
GivesUp seats n new = (seat : Seat) → slice_get seats n ≡ Some seat → new ≡ set seats n (Idle (device_of seat))

-- a device begins a sync
abbrev pub Begins : Fetch → List Seat → ℕ → List Seat → Type 0
Begins fetch seats n new = (seat : Seat) → slice_get seats n ≡ Some seat → new ≡ set seats n (seat_after_start fetch seat)

-- a device hears an answer
abbrev pub Hears : Answer → List Seat → ℕ → List Seat → Type 0
Hears answer seats n new = (seat : Seat) → slice_get seats n ≡ Some seat → (heard : Seat) × HearsAtSeat answer heard seat × (new ≡ set seats n heard)

-- a device is edited
abbrev pub Changes : ℕ → Edit → List Seat → ℕ → List Seat → Type 0
Changes now edit seats n new = (seat : Seat) → slice_get seats n ≡ Some seat → (changed : Seat) × IsEditedSeat now edit changed seat × (new ≡ set seats n changed)
