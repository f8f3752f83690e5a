use Rattle.ss_record.proofs.Fit.{fit_is}
use Rattle.ss_record.proofs.laws.fitness_is_reading_back.Goals as goal

pub returns : goal.returns
returns c = fit_is
