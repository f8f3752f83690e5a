use Rattle.ss_text.proofs.NoFloat.{marked_no_float}
use Rattle.ss_text.proofs.laws.marked_is_whole.Goals as goal

pub returns : goal.returns
returns c = marked_no_float
