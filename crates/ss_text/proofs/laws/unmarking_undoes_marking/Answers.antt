use Rattle.ss_text.proofs.Marks.{unmarked-marked}
use Rattle.ss_text.proofs.laws.unmarking_undoes_marking.Goals as goal

pub returns : goal.returns
returns c = unmarked-marked
