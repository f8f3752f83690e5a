use Rattle.ss_merge.proofs.Sided.{comes_to_root}
use Rattle.ss_merge.proofs.laws.final_parents_come_to_a_root.Goals as goal

pub returns : goal.returns
returns _ = λ s ids m x h. comes_to_root s ids m x h
