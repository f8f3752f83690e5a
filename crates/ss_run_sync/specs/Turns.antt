-- One exchange of a run, and the run so far.
use Rattle.std.specs.Prelude.{◌≡◌, List, IsTrue, IsFalse}
use Rattle.ss_outside.specs.Told.{Meanings}
use Rattle.ss_http.specs.declared.heard.Heard.{Heard}
use Rattle.ss_hearing.specs.Hearing.{answer_of}
use Rattle.ss_client.specs.Runs.{MachineView}
use Rattle.ss_client.specs.Asking.{ask, awaits}
use Rattle.ss_client.specs.Machine.{Next, Send, Done, Stop, Follows}
use Rattle.ss_run_sync.specs.declared.talk.Talk.TheVariants as talks
use Rattle.ss_run_sync.specs.declared.conversing.Turn.{Turn}
use Rattle.ss_run_sync.specs.declared.conversing.Turn.TheVariants.{On, End}
use Rattle.ss_run_sync.specs.Moves.{RaisesNoFault}
use Rattle.ss_outside.specs.Told.{Moves}
use Rattle.ss_run_sync.specs.Course.{Account, Exchange, requests, responses, IsCourse}
use Rattle.ss_run_sync.specs.Talks.{GoesOn, Talks, IsCloser, IsNearer}

-- what a machine does on a response that was heard
abbrev pub Goes : MachineView → Heard → Next → Type 0
Goes m heard next = Follows m.device m.run m.stage (answer_of (awaits m.stage) heard) next

-- what is made of a response: the next request over the same link, where the response isn't its last; or the link is left
abbrev pub Hearing : MachineView → Heard → Turn → Type 0
Hearing m heard (On machine request) = (machine.device ≡ m.device) × Goes m heard (Send machine.run machine.stage) × (request ≡ ask machine) × IsFalse heard.last
Hearing m heard (End (talks.Anew machine request)) = (machine.device ≡ m.device) × Goes m heard (Send machine.run machine.stage) × (request ≡ ask machine) × IsTrue heard.last
Hearing m heard (End (talks.Done device summary)) = Goes m heard (Done device summary)
Hearing m heard (End (talks.Stop device fault)) = (device ≡ m.device) × Goes m heard (Stop fault)
Hearing m heard (End (talks.Memory device)) = device ≡ m.device
Hearing m heard (End (talks.Wire device)) = ⊥

-- a run of a device came from one machine to another over a link, which goes on
pub record Comes (account : Account) (m machine : MachineView) (link link' : Meanings) : Type 0 where
  pub exchanges : List Exchange
  pub device : machine.device ≡ m.device
  pub course : IsCourse m.device (Send m.run m.stage) exchanges (Send machine.run machine.stage)
  pub goes_on : GoesOn exchanges
  pub moves : Moves (responses exchanges) (requests account m.device exchanges) link link'
  pub faults : RaisesNoFault link link'

-- what comes of one exchange
abbrev pub Turns : Account → MachineView → Turn → Meanings → Meanings → Type 0
Turns account m (On machine request) link link' = Comes account m machine link link' × (request ≡ ask machine)
Turns account m (End talk) link link' = Talks account m talk link link'

-- where the run goes on, over this link or another one, it is nearer to its end
abbrev pub Brings : MachineView → Turn → Type 0
Brings m (On machine request) = IsCloser machine m
Brings m (End talk) = IsNearer m talk
