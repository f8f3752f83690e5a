use Rattle.std.proofs.lemmas.Result.{on_ok_weaker}
use Rattle.ss_rehearse.proofs.Steps.{happened}
use Rattle.ss_rehearse.proofs.events.deliver.Goals as goal

pub returns : goal.returns
returns c = on_ok_weaker c.passed.result (λ i. happened c.step.result _ c.step.ensures.happens c.step.ensures.passed i) c.passed.ensures
