use Rattle.ss_world.proofs.Promised.{valid_on}
use Rattle.ss_world.proofs.laws.devices_stay_faithful.Goals as goal

pub returns : goal.returns
returns c = λ trusts w steps n s o r ok there. valid_on trusts w steps o r ok n s there
