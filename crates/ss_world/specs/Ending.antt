-- How far a machine is from its end.
use Rattle.std.specs.Prelude.{◌≡◌, ◌⊎◌, ℕ, ◌-◌, ◌+◌, ◌<◌, length, Bool, if◌then◌else◌, Option, Some, None, ⊤}
use Rattle.ss_hearing.specs.declared.answer.Answer.{Answer}
use Rattle.ss_hearing.specs.declared.answer.Answer.TheVariants.{Changed, Refused}
use Rattle.ss_device.specs.Device.{DeviceView}
use Rattle.ss_client.specs.declared.summaries.SyncFault.{SyncFault}
use Rattle.ss_client.specs.declared.summaries.SyncFault.TheVariants as fault
use Rattle.ss_client.specs.declared.runs.Run.{Run}
use Rattle.ss_client.specs.declared.runs.Stage.{Stage}
use Rattle.ss_client.specs.declared.runs.Stage.TheVariants.{Asks, Opens, Pages, Lists, Uploads}
use Rattle.ss_client.specs.Runs.{rest_of}
use Rattle.ss_client.specs.Machine.{Follows, Next, Send, Done, Stop}

-- a reply of the awaited status
abbrev pub IsAwaitedAnswer : Answer → Type 0
IsAwaitedAnswer (Changed time) = ⊥
IsAwaitedAnswer (Refused status) = ⊥
IsAwaitedAnswer answer = ⊤

-- the part of a run, counted down, and how much is left of it: the limits; a newer fetch; the ids; a whole fetch; a first POST;
-- further ones
pub record Rank : Type 0 where
  pub part : ℕ
  pub left : ℕ

abbrev pub fetch_part : Bool → ℕ
fetch_part newer = if newer then 5 else 3

abbrev pub post_part : Option ℕ → ℕ
post_part None = 2
post_part (Some batch) = 1

abbrev pub rank : Bool → Stage → Rank
rank newer Asks = record { part = 6; left = 0 }
rank newer Opens = record { part = fetch_part newer; left = 2000 }
rank newer (Pages p) = record { part = fetch_part newer; left = 1000 - p.pages }
rank newer (Lists l) = record { part = 4; left = 0 }
rank newer (Uploads u) = record { part = post_part u.batch; left = length (rest_of u) }

abbrev pub IsLower : Rank → Rank → Type 0
IsLower x y = (x.part < y.part) ⊎ ((x.part ≡ y.part) × (x.left < y.left))

-- why a run may stop that gets the awaited status each time: not for another status, nor since something changed too often
abbrev pub IsOfTheReply : SyncFault → Type 0
IsOfTheReply (fault.Refused status None) = ⊥
IsOfTheReply (fault.Changing first second third fourth) = ⊥
IsOfTheReply f = ⊤

-- the run has ended, or is nearer to its end
abbrev pub ComesBelow : Rank → Next → Type 0
ComesBelow y (Send run stage) = IsLower (rank run.newer stage) y
ComesBelow y (Done device summary) = ⊤
ComesBelow y (Stop f) = IsOfTheReply f

-- a run that goes on for ever, and gets the awaited status each time
pub record GoesOnForEver (device : DeviceView) : Type 0 where
  pub run : ℕ → Run
  pub stage : ℕ → Stage
  pub answer : ℕ → Answer
  pub awaited : (k : ℕ) → IsAwaitedAnswer (answer k)
  pub follows : (k : ℕ) → Follows device (run k) (stage k) (answer k) (Send (run (k + 1)) (stage (k + 1)))

-- a run goes on, is done, or stops since its plan is beyond the server's limits
abbrev pub IsDoneOrPlanned : Next → Type 0
IsDoneOrPlanned (Send run stage) = ⊤
IsDoneOrPlanned (Done device summary) = ⊤
IsDoneOrPlanned (Stop (fault.Plan f)) = ⊤
IsDoneOrPlanned (Stop fault.Memory) = ⊤
IsDoneOrPlanned (Stop f) = ⊥
