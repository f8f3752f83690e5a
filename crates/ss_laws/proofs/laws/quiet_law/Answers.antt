use Rattle.ss_laws.proofs.Stamps.{quiet_law}
use Rattle.ss_laws.proofs.laws.quiet_law.Goals as goal

pub returns : goal.returns
returns c = quiet_law
