use Rattle.std.proofs.Common.{refl}
use Rattle.ss_client.specs.Asking.{asked}
use Rattle.ss_client.proofs.machine.Machine.start.Goals as goal

pub returns-clause-request : goal.returns-clause-request
unfolding asked
returns-clause-request c = refl
