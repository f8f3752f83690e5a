use Rattle.ss_dupe.proofs.Renamed.{paired_is_valid}
use Rattle.ss_dupe.proofs.laws.renamed_trees_are_valid.Goals as goal

pub returns : goal.returns
returns _ = λ m l r x y pairs vl vr a. paired_is_valid m l r x y pairs vl vr a
