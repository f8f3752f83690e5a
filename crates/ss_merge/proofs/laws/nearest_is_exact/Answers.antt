use Rattle.ss_merge.proofs.Folding.{nearest_exact}
use Rattle.ss_merge.proofs.laws.nearest_is_exact.Goals as goal

pub returns : goal.returns
returns _ = λ s ids m side x p i. nearest_exact s ids m side x p i
