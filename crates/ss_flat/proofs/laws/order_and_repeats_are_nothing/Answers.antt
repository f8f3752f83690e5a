use Rattle.ss_flat.proofs.SameSets.{same_gone, same_shown, same_skipped}
use Rattle.ss_flat.proofs.laws.order_and_repeats_are_nothing.Goals as goal

pub returns-clause-shown : goal.returns-clause-shown
returns-clause-shown c = same_shown

pub returns-clause-gone : goal.returns-clause-gone
returns-clause-gone c = same_gone

pub returns-clause-skipped : goal.returns-clause-skipped
returns-clause-skipped c = same_skipped
