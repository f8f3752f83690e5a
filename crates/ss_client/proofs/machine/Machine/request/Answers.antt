use Rattle.std.proofs.Common.{sym, subst}
use Rattle.std.proofs.lemmas.Result.{IfOk-weaker}
use Rattle.ss_client.specs.Told.{CanSend}
use Rattle.ss_client.proofs.Asked.{asked_sent}
use Rattle.ss_client.proofs.machine.Machine.request.Goals as goal

pub returns-clause-sent : goal.returns-clause-sent
returns-clause-sent c =
    let i = c.self.inside in
    IfOk-weaker c.asked.result _ CanSend (λ request e. subst CanSend (sym e) (asked_sent (record { device = i.device; run = i.run; stage = i.stage }) i.stage c.self.invariant.0.1)) c.asked.ensures
