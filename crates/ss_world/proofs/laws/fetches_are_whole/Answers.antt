use Rattle.ss_world.proofs.Promised.{fetches}
use Rattle.ss_world.proofs.laws.fetches_are_whole.Goals as goal

pub returns : goal.returns
returns c = λ trusts w steps n now m v rows o r ok there h f. fetches trusts w steps o r ok n now m v rows there h f
