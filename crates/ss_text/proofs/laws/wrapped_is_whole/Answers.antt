use Rattle.ss_text.proofs.NoFloat.{no_float}
use Rattle.ss_text.proofs.laws.wrapped_is_whole.Goals as goal

pub returns : goal.returns
returns c = no_float
