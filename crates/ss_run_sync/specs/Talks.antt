-- A device's requests over one link, and why it left it.
use Rattle.std.specs.Prelude.{◌≡◌, ◌⊎◌, ◌<◌, ℕ, List, [], ◌∷◌, ◌++◌, All, IsTrue, IsFalse, ⊤}
use Rattle.ss_outside.specs.Told.{Meanings}
use Rattle.ss_device.specs.Device.{DeviceView}
use Rattle.ss_client.specs.declared.summaries.SyncFault.{SyncFault}
use Rattle.ss_client.specs.declared.summaries.SyncFault.TheVariants.{BadReply}
use Rattle.ss_client.specs.declared.runs.Run.{Run}
use Rattle.ss_client.specs.declared.runs.Stage.{Stage}
use Rattle.ss_client.specs.Runs.{MachineView}
use Rattle.ss_client.specs.Asking.{ask}
use Rattle.ss_client.specs.Machine.{Next, Send, Done, Stop}
use Rattle.ss_client.specs.Bounds.{to_follow}
use Rattle.ss_run_sync.specs.declared.talk.Talk.{Talk}
use Rattle.ss_run_sync.specs.declared.talk.Talk.TheVariants as talks
use Rattle.ss_run_sync.specs.Moves.{RaisesNoFault, Fails}
use Rattle.ss_outside.specs.Told.{Moves}
use Rattle.ss_run_sync.specs.Course.{Account, Exchange, request_next, requests, responses, IsCourse}
use Rattle.ss_run_sync.specs.Answers.{IsUnread}

-- what went over a link: the exchanges, the bytes that were taken behind the last response, and those that were written behind
-- the last request that was answered
pub record TalkView : Type 0 where
  pub exchanges : List Exchange
  pub more : List ℕ
  pub part : List ℕ

-- all bytes that were taken of the link, and that were written to it
abbrev pub taken_of : TalkView → List ℕ
taken_of t = responses t.exchanges ++ t.more

abbrev pub written_of : Account → DeviceView → TalkView → List ℕ
written_of account d t = requests account d t.exchanges ++ t.part

-- no response is the link's last
abbrev pub GoesOn : List Exchange → Type 0
GoesOn exchanges = All (λ x. IsFalse x.heard.last) exchanges

-- there is a last response, and none before it is the link's last
pub record EndsIn (exchanges : List Exchange) : Type 0 where
  pub before : List Exchange
  pub last : Exchange
  pub all : exchanges ≡ before ++ last ∷ []
  pub goes_on : GoesOn before

-- no byte was taken or written beside the exchanges
pub record IsWhole (t : TalkView) : Type 0 where
  pub more : t.more ≡ []
  pub part : t.part ≡ []

-- the run asked for more, and no response is read of what came: it stops with the number of that request
pub record IsBadReply (account : Account) (d : DeviceView) (t : TalkView) (next : Next) (fault : SyncFault) (link' : Meanings) : Type 0 where
  pub run : Run
  pub stage : Stage
  pub asks : next ≡ Send run stage
  pub goes_on : GoesOn t.exchanges
  pub asked : t.part ≡ request_next account d next
  pub unread : IsUnread t.more link'
  pub stops : fault ≡ BadReply run.number

-- the run asked for more, and a write of its request or a read of the response failed
pub record FailsInTalk (account : Account) (d : DeviceView) (t : TalkView) (next : Next) (link link' : Meanings) : Type 0 where
  pub run : Run
  pub stage : Stage
  pub asks : next ≡ Send run stage
  pub goes_on : GoesOn t.exchanges
  pub fails : Fails (request_next account d next) t.more t.part link link'

-- the run asked for more, and memory was wanting: before its request was begun, or after it was written
pub record IsWanting (account : Account) (d : DeviceView) (t : TalkView) (next : Next) : Type 0 where
  pub run : Run
  pub stage : Stage
  pub asks : next ≡ Send run stage
  pub goes_on : GoesOn t.exchanges
  pub sent : IsWhole t ⊎ (t.part ≡ request_next account d next)

-- the last response is the link's last
abbrev pub IsLast : List Exchange → Type 0
IsLast exchanges = (end : EndsIn exchanges) × IsTrue end.last.heard.last

-- Why a device left a link, over what went over it, what the run does next, and what the link tells. The device that comes back
-- is the one that was started, until the run is done
abbrev pub Cause : Account → DeviceView → TalkView → Next → Meanings → Meanings → Talk → Type 0
Cause account d t next link link' (talks.Done device summary) = (next ≡ Done device summary) × EndsIn t.exchanges × IsWhole t × RaisesNoFault link link'
Cause account d t next link link' (talks.Stop device fault) =
    (device ≡ d) × (((next ≡ Stop fault) × EndsIn t.exchanges × IsWhole t) ⊎ IsBadReply account d t next fault link') × RaisesNoFault link link'
Cause account d t next link link' (talks.Anew machine request) =
    (machine.device ≡ d) × (next ≡ Send machine.run machine.stage) × (request ≡ ask machine) × IsLast t.exchanges × IsWhole t × RaisesNoFault link link'
Cause account d t next link link' (talks.Wire device) = (device ≡ d) × FailsInTalk account d t next link link'
Cause account d t next link link' (talks.Memory device) = (device ≡ d) × IsWanting account d t next × RaisesNoFault link link'

-- a machine's requests over a link, from the one whose reply it awaits: what went over it, what the run does next, and why it was left
pub record Talks (account : Account) (m : MachineView) (talk : Talk) (link link' : Meanings) : Type 0 where
  pub talked : TalkView
  pub next : Next
  pub course : IsCourse m.device (Send m.run m.stage) talked.exchanges next
  pub moves : Moves (taken_of talked) (written_of account m.device talked) link link'
  pub cause : Cause account m.device talked next link link' talk

-- fewer requests may follow a machine than another one
abbrev pub IsCloser : MachineView → MachineView → Type 0
IsCloser machine m = to_follow machine.run machine.stage < to_follow m.run m.stage

-- the run is nearer to its end, where it goes on over another link
abbrev pub IsNearer : MachineView → Talk → Type 0
IsNearer m (talks.Anew machine request) = IsCloser machine m
IsNearer m (talks.Done device summary) = ⊤
IsNearer m (talks.Stop device fault) = ⊤
IsNearer m (talks.Wire device) = ⊤
IsNearer m (talks.Memory device) = ⊤
