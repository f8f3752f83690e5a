use Rattle.ss_laws.proofs.Induction.{batch_law, valid-counted}
use Rattle.ss_laws.proofs.laws.batch_law.Goals as goal

pub returns : goal.returns
returns c = record { flat = batch_law; valid = valid-counted }
