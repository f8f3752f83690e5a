use Rattle.ss_merge.proofs.Sided.{rooted_exact}
use Rattle.ss_merge.proofs.laws.rooted_is_exact.Goals as goal

pub returns : goal.returns
returns _ = λ s ids m x h. rooted_exact s ids m x h
