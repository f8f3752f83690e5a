use Rattle.ss_laws.proofs.Stamps.{stamp_law}
use Rattle.ss_laws.proofs.laws.stamp_law.Goals as goal

pub returns : goal.returns
returns c = stamp_law
