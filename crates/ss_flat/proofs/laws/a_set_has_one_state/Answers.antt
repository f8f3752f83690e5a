use Rattle.ss_flat.proofs.SameSets.{flat_moved, one_state}
use Rattle.ss_flat.proofs.laws.a_set_has_one_state.Goals as goal

pub returns-clause-one : goal.returns-clause-one
returns-clause-one c = one_state

pub returns-clause-moved : goal.returns-clause-moved
returns-clause-moved c = flat_moved
