use Rattle.ss_laws.proofs.CommitLaw.{commit_law}
use Rattle.ss_laws.proofs.laws.commit_law.Goals as goal

pub returns : goal.returns
returns c = commit_law
