use Rattle.ss_promises.proofs.Readying.{reached_send}
use Rattle.ss_promises.proofs.runs.machines_of_worlds_are_ready.Goals as goal

pub returns : goal.returns
returns c = reached_send
