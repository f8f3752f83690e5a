-- The links of a sync, one after the other, and what its run comes to.
use Rattle.std.specs.Prelude.{◌≡◌, ◌⊎◌, ℕ, List, [], ◌∷◌, ◌++◌, map, All, Option, Some, None, unwrap_or, IfSome, ⊤}
use Rattle.std.specs.List.{flat_map}
use Rattle.ss_outside.specs.Told.{Meanings}
use Rattle.ss_outside.specs.Causes.{Rose}
use Rattle.ss_links.specs.Dials.{Address, HungLink}
use Rattle.ss_links.specs.declared.dial.DialFault.{DialFault}
use Rattle.ss_links.specs.declared.dial.DialFault.TheVariants.{Fault, Memory}
use Rattle.ss_device.specs.Device.{DeviceView}
use Rattle.ss_client.specs.declared.summaries.SyncFault.{SyncFault}
use Rattle.ss_client.specs.declared.runs.Run.{Run}
use Rattle.ss_client.specs.declared.runs.Stage.{Stage}
use Rattle.ss_client.specs.Runs.{MachineView}
use Rattle.ss_client.specs.Asking.{ask}
use Rattle.ss_client.specs.Machine.{Next, Send, Done, Stop}
use Rattle.ss_run_sync.specs.declared.talk.Talk.{Talk}
use Rattle.ss_run_sync.specs.declared.talk.Talk.TheVariants as talks
use Rattle.ss_run_sync.specs.Moves.{IsFront}
use Rattle.ss_run_sync.specs.Course.{Account, Exchange, request_next, IsCourse}
use Rattle.ss_run_sync.specs.Talks.{TalkView, taken_of, written_of, GoesOn, EndsIn, IsWhole, IsLast, IsBadReply}
use Rattle.ss_run_sync.specs.Talks.{IsCloser}
use Rattle.ss_run_sync.specs.declared.linking.Came.{Came}
use Rattle.ss_run_sync.specs.declared.linking.Came.TheVariants as came
use Rattle.ss_run_sync.specs.declared.linking.Leg.{Leg}
use Rattle.ss_run_sync.specs.declared.linking.Leg.TheVariants.{On, End}

-- a link that was used: what went over it, and what it told when it was hung up
pub record UsedLink : Type 0 where
  pub talked : TalkView
  pub tells : Meanings

-- what is told of it once it was hung up: the bytes that were taken from it, that were left, and that were written to it
abbrev pub hung_of : Account → DeviceView → UsedLink → HungLink
hung_of account d used = record { taken = taken_of used.talked; left = unwrap_or used.tells.left []; written = written_of account d used.talked }

-- where it is told which links were hung up, these were, behind those before
abbrev pub Hangs : Account → DeviceView → List UsedLink → Option (List HungLink) → Option (List HungLink) → Type 0
Hangs account d links hung hung' = (y : List HungLink) → hung' ≡ Some y → (x : List HungLink) × (hung ≡ Some x) × (y ≡ x ++ map (hung_of account d) links)

-- where it is told which addresses a dial was asked for, this one was asked for each of these links, and then these were, behind those before
abbrev pub Dials : Address → List UsedLink → List Address → Option (List Address) → Option (List Address) → Type 0
Dials address links more asked asked' = (y : List Address) → asked' ≡ Some y → (x : List Address) × (asked ≡ Some x) × (y ≡ x ++ (map (λ used. address) links ++ more))

-- the exchanges over links, in order
abbrev pub exchanges_of : List UsedLink → List Exchange
exchanges_of links = flat_map (λ used. used.talked.exchanges) links

-- a link that was left for the next one: all that went over it are exchanges, and its last response said that it is the last; none
-- before it did
pub record IsLeftLink (used : UsedLink) : Type 0 where
  pub last : IsLast used.talked.exchanges
  pub whole : IsWhole used.talked

-- the link, if there was one, is in a list of them
abbrev pub link_in_list : Option UsedLink → List UsedLink
link_in_list None = []
link_in_list (Some used) = used ∷ []

-- the run asked for more; over the last link, if there was one, no response said that it is the last, and a front of the next request
-- was written behind the exchanges
pub record IsAsking (account : Account) (d : DeviceView) (last : Option UsedLink) (next : Next) : Type 0 where
  pub run : Run
  pub stage : Stage
  pub asks : next ≡ Send run stage
  pub written : IfSome last (λ used. GoesOn used.talked.exchanges × IsFront used.talked.part (request_next account d next))

-- the run ended with the last response over a link, and nothing else went over it
pub record EndsOnLink (last : Option UsedLink) : Type 0 where
  pub used : UsedLink
  pub is_last : last ≡ Some used
  pub ends : EndsIn used.talked.exchanges
  pub whole : IsWhole used.talked

-- the run asked for more over a link, whose response can't be read: it stops with the number of that request
pub record IsUnheard (account : Account) (d : DeviceView) (last : Option UsedLink) (next : Next) (f : SyncFault) : Type 0 where
  pub used : UsedLink
  pub is_last : last ≡ Some used
  pub bad : IsBadReply account d used.talked next f used.tells

-- What a run came to, over its last link, what it does next, and the dial's count of faults
abbrev pub Comes : Account → DeviceView → Option UsedLink → Next → ℕ → ℕ → Came → Type 0
Comes account d last next faults faults' (came.Done device summary) = (next ≡ Done device summary) × EndsOnLink last × (faults' ≡ faults)
Comes account d last next faults faults' (came.Stop f) = (((next ≡ Stop f) × EndsOnLink last) ⊎ IsUnheard account d last next f) × (faults' ≡ faults)
Comes account d last next faults faults' came.Wire = IsAsking account d last next × Rose faults faults'
Comes account d last next faults faults' came.Memory = IsAsking account d last next × (faults' ≡ faults)

-- what a dial was asked for beside the links of a run: its address once more, where the run ended since that dial failed
abbrev pub missed_address : Address → Option UsedLink → Came → List Address
missed_address address (Some used) what = []
missed_address address None came.Wire = address ∷ []
missed_address address None what = []

-- A run over links, from the request whose reply its machine awaits: the links that were left for the next one, the one on which it
-- ended, if it ended on one, and what it came to. All exchanges together are one course of the machine. Each link was dialled once, at
-- this address
pub record IsRunOverLinks (account : Account) (m : MachineView) (what : Came) (faults faults' : ℕ) (hung hung' : Option (List HungLink)) (address : Address) (asked asked' : Option (List Address)) : Type 0 where
  pub before : List UsedLink
  pub last : Option UsedLink
  pub next : Next
  pub course : IsCourse m.device (Send m.run m.stage) (exchanges_of (before ++ link_in_list last)) next
  pub left : All IsLeftLink before
  pub dials : Dials address (before ++ link_in_list last) (missed_address address last what) asked asked'
  pub hangs : Hangs account m.device (before ++ link_in_list last) hung hung'
  pub comes : Comes account m.device last next faults faults' what

-- ---- one link

abbrev pub leg_of : Talk → Leg
leg_of (talks.Done device summary) = End (came.Done device summary)
leg_of (talks.Stop device f) = End (came.Stop f)
leg_of (talks.Anew machine request) = On machine request
leg_of (talks.Wire device) = End came.Wire
leg_of (talks.Memory device) = End came.Memory

-- what a run comes to for which no link was made
abbrev pub came_of : DialFault → Came
came_of Fault = came.Wire
came_of Memory = came.Memory

-- a run came from one machine to another over links that were left for the next one
pub record Goes (account : Account) (m machine : MachineView) (faults faults' : ℕ) (hung hung' : Option (List HungLink)) (address : Address) (asked asked' : Option (List Address)) : Type 0 where
  pub before : List UsedLink
  pub device : machine.device ≡ m.device
  pub course : IsCourse m.device (Send m.run m.stage) (exchanges_of before) (Send machine.run machine.stage)
  pub left : All IsLeftLink before
  pub dials : Dials address before [] asked asked'
  pub hangs : Hangs account m.device before hung hung'
  pub faultless : faults' ≡ faults

-- what comes of one link
abbrev pub IsLeg : Account → MachineView → Leg → ℕ → ℕ → Option (List HungLink) → Option (List HungLink) → Address → Option (List Address) → Option (List Address) → Type 0
IsLeg account m (On machine request) faults faults' hung hung' address asked asked' = Goes account m machine faults faults' hung hung' address asked asked' × (request ≡ ask machine)
IsLeg account m (End what) faults faults' hung hung' address asked asked' = IsRunOverLinks account m what faults faults' hung hung' address asked asked'

-- where the run goes on over another link, it is nearer to its end
abbrev pub IsNearer : MachineView → Leg → Type 0
IsNearer m (On machine request) = IsCloser machine m
IsNearer m (End what) = ⊤
