use Rattle.ss_world.proofs.Fresh.{fresh_openable}
use Rattle.ss_world.proofs.laws.fresh_worlds_can_be_opened.Goals as goal

pub returns : goal.returns
returns c = λ trusts w same new. fresh_openable trusts w same new
