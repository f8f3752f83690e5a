use Rattle.ss_promises.proofs.Moving.{moves}
use Rattle.ss_promises.proofs.moves.accounts_move.Goals as goal

pub returns : goal.returns
returns c = moves
