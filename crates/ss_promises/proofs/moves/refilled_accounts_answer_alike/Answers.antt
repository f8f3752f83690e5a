use Rattle.ss_promises.proofs.Moving.{refilled_alike}
use Rattle.ss_promises.proofs.moves.refilled_accounts_answer_alike.Goals as goal

pub returns : goal.returns
returns c = refilled_alike
