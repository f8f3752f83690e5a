use Rattle.ss_sync.proofs.Equal.{left_alone}
use Rattle.ss_sync.proofs.laws.one_tree_is_left_alone.Goals as goal

pub returns : goal.returns
returns _ = λ local remote lost gone t v same. left_alone local remote lost gone t v same
