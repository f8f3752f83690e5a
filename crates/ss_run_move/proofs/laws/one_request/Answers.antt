use Rattle.ss_run_move.proofs.OneRequest.{one_request}
use Rattle.ss_run_move.proofs.laws.one_request.Goals as goal

pub returns : goal.returns
returns c = one_request
