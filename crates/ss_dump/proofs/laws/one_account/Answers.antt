use Rattle.ss_dump.proofs.Exact.{one_dump}
use Rattle.ss_dump.proofs.laws.one_account.Goals as goal

pub returns : goal.returns
returns c = λ text kept other h g. one_dump text kept other h g
