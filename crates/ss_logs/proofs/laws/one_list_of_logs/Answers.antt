use Rattle.ss_logs.proofs.ToTheEnd.{one_text}
use Rattle.ss_logs.proofs.laws.one_list_of_logs.Goals as goal

pub returns : goal.returns
returns c = λ text logs others h g. one_text text logs others h g
