use Rattle.ss_rehearse.proofs.Told.{summary_once}
use Rattle.ss_rehearse.proofs.laws.trees_have_one_summary.Goals as goal

pub returns : goal.returns
returns c = summary_once
