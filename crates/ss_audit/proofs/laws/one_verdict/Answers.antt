use Rattle.ss_audit.proofs.OneVerdict.{one_verdict as one_verdict_lem}
use Rattle.ss_audit.proofs.laws.one_verdict.Goals as goal

pub returns : goal.returns
returns c = one_verdict_lem
