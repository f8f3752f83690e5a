use Rattle.ss_promises.proofs.Lasting.{answered_typed, stays_typed, ticked_typed}
use Rattle.ss_promises.proofs.values.accounts_stay_typed.Goals as goal

pub returns-clause-typed : goal.returns-clause-typed
returns-clause-typed c = stays_typed

pub returns-clause-asked : goal.returns-clause-asked
returns-clause-asked c = answered_typed

pub returns-clause-read : goal.returns-clause-read
returns-clause-read c = ticked_typed
