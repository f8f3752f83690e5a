use Rattle.ss_logs.proofs.ToTheEnd.{not_refused}
use Rattle.ss_logs.proofs.laws.logs_are_not_refused.Goals as goal

pub returns : goal.returns
returns c = λ text logs fault h r. not_refused text logs fault h r
