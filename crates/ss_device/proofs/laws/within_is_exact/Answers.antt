use Rattle.ss_device.proofs.Uphill.{within_steps}
use Rattle.ss_device.proofs.laws.within_is_exact.Goals as goal

pub returns : goal.returns
returns c = within_steps
