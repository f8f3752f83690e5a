use Rattle.ss_laws.proofs.Absence.{absence_law}
use Rattle.ss_laws.proofs.laws.absence_law.Goals as goal

pub returns : goal.returns
returns c = absence_law
