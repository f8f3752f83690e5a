use Rattle.ss_laws.proofs.Stamps.{refusal_law}
use Rattle.ss_laws.proofs.laws.refusal_law.Goals as goal

pub returns : goal.returns
returns c = refusal_law
