use Rattle.ss_flat.proofs.SameSets.{joining_associates, joining_commutes, joining_is_idempotent}
use Rattle.ss_flat.proofs.laws.joining_is_a_join.Goals as goal

pub returns-clause-commutes : goal.returns-clause-commutes
returns-clause-commutes c = joining_commutes

pub returns-clause-associates : goal.returns-clause-associates
returns-clause-associates c = joining_associates

pub returns-clause-idempotent : goal.returns-clause-idempotent
returns-clause-idempotent c = joining_is_idempotent
