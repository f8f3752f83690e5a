use Rattle.std.proofs.Common.{subst}
use Rattle.ss_client.specs.Runs.{MachineView}
use Rattle.ss_client.specs.Asking.{ask}
use Rattle.ss_client.specs.Told.{CanSend}
use Rattle.ss_client.proofs.Asked.{asked_sent}
use Rattle.ss_client.proofs.machine.Machine.number.Goals as goal

pub returns-clause-sent : goal.returns-clause-sent
returns-clause-sent c =
    let i = c.self.inside in
    let m : MachineView = record { device = i.device; run = i.run; stage = i.stage } in
    subst (λ (n : MachineView). CanSend (ask n)) c.self.view_is (asked_sent m i.stage c.self.invariant.0.1)
