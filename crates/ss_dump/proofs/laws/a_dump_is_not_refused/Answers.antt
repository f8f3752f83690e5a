use Rattle.ss_dump.proofs.Exact.{not_refused}
use Rattle.ss_dump.proofs.laws.a_dump_is_not_refused.Goals as goal

pub returns : goal.returns
returns c = λ text kept fault h r. not_refused text kept fault h r
