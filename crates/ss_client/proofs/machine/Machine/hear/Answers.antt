use Rattle.std.proofs.Common.{◌≡◌, ◌<◌, true, sym, subst}
use Rattle.ss_client.specs.Runs.{MachineView}
use Rattle.ss_client.specs.Machine.{Send}
use Rattle.ss_client.specs.Told.{CanSend, leads_on}
use Rattle.ss_client.specs.Bounds.{to_follow}
use Rattle.ss_client.proofs.Sound.{follows_sound}
use Rattle.ss_client.proofs.Nearing.{follows_near}
use Rattle.ss_client.proofs.Asked.{asked_sent}
use Rattle.ss_client.proofs.Leading.{leads, stops_otherwise}
use Rattle.ss_client.proofs.machine.Machine.hear.Goals as goal

pub invariant_of-result : goal.invariant_of-result
invariant_of-result c =
    let i = c.self.inside in
    let follows = rw c.in-Ok-Send.field-0-is at c.in-Ok-Send.ensures.follows in (
      follows_sound i.device i.run i.stage c.args.answer (Send c.in-Ok-Send.run' c.in-Ok-Send.stage) c.self.invariant.0 c.requires follows,
      (follows_near i.device i.run i.stage c.args.answer (Send c.in-Ok-Send.run' c.in-Ok-Send.stage) (c.self.invariant.0.0.total, c.self.invariant.1) c.requires follows).0.1,
    )

pub returns-in-Ok-clause-sent : goal.returns-in-Ok-clause-sent
returns-in-Ok-clause-sent c =
    let i = c.self.inside in
    let sound =
    follows_sound i.device i.run i.stage c.args.answer (Send c.in-Ok-Send.run' c.in-Ok-Send.stage) c.self.invariant.0 c.requires
    (rw c.in-Ok-Send.field-0-is at c.in-Ok-Send.ensures.follows) in
    subst CanSend (sym c.in-Ok.ensures) (asked_sent (record { device = i.device; run = c.in-Ok-Send.run'; stage = c.in-Ok-Send.stage }) c.in-Ok-Send.stage sound.1)

pub returns-in-Ok-clause-nearer : goal.returns-in-Ok-clause-nearer
returns-in-Ok-clause-nearer c =
    let i = c.self.inside in
    let near =
    (follows_near i.device i.run i.stage c.args.answer (Send c.in-Ok-Send.run' c.in-Ok-Send.stage) (c.self.invariant.0.0.total, c.self.invariant.1) c.requires
    (rw c.in-Ok-Send.field-0-is at c.in-Ok-Send.ensures.follows)).1 in
    subst (λ (m : MachineView). to_follow c.in-Ok-Send.run' c.in-Ok-Send.stage < to_follow m.run m.stage) c.self.view_is near

pub returns-in-Ok-Stop-clause-wanting : goal.returns-in-Ok-Stop-clause-wanting
returns-in-Ok-Stop-clause-wanting c = λ m.
    let i = c.self.inside in
    absurd (stops_otherwise i.device i.run i.stage c.args.answer c.in-Ok-Stop.fault (rw c.in-Ok-Stop.field-0-is at c.in-Ok-Stop.ensures.follows) m)

pub returns-in-Err-asked-clause-wanting : goal.returns-in-Err-asked-clause-wanting
returns-in-Err-asked-clause-wanting c = λ m.
    let i = c.self.inside in
    subst (λ (x : MachineView). leads_on x.run x.stage c.args.answer ≡ true) c.self.view_is
    (leads i.device i.run i.stage c.args.answer c.in-Ok-Send.run' c.in-Ok-Send.stage (rw c.in-Ok-Send.field-0-is at c.in-Ok-Send.ensures.follows))
