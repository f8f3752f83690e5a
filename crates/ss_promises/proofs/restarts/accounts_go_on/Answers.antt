use Rattle.ss_promises.proofs.Reopening.{goes_on}
use Rattle.ss_promises.proofs.restarts.accounts_go_on.Goals as goal

pub returns : goal.returns
returns c = goes_on
