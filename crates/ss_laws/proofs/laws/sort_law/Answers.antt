use Rattle.ss_laws.proofs.InOrder.{sort_law}
use Rattle.ss_laws.proofs.laws.sort_law.Goals as goal

pub returns : goal.returns
returns c = sort_law
