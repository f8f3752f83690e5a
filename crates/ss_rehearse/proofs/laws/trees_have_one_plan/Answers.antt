use Rattle.ss_rehearse.proofs.Told.{plan_once}
use Rattle.ss_rehearse.proofs.laws.trees_have_one_plan.Goals as goal

pub returns : goal.returns
returns c = plan_once
