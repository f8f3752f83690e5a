use Rattle.ss_rehearse.proofs.OneText.{one_summary}
use Rattle.ss_rehearse.proofs.laws.rehearsals_have_one_summary.Goals as goal

pub returns : goal.returns
returns c = one_summary
