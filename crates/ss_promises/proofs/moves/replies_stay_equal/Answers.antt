use Rattle.ss_promises.proofs.Moving.{alike_from, answer_alike}
use Rattle.ss_promises.proofs.moves.replies_stay_equal.Goals as goal

pub returns : goal.returns
returns c = record { same = answer_alike; go_on = alike_from }
