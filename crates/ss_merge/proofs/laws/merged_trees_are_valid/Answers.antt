use Rattle.ss_merge.proofs.Valid.{merged_valid, merged_ids}
use Rattle.ss_merge.proofs.laws.merged_trees_are_valid.Goals as goal

pub returns-clause-valid : goal.returns-clause-valid
returns-clause-valid _ = λ s ids m. merged_valid s ids m

pub returns-clause-ids : goal.returns-clause-ids
returns-clause-ids _ = λ s ids m x. merged_ids s ids m x
