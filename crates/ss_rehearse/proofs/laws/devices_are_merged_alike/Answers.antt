use Rattle.ss_rehearse.proofs.Merging.{merged_alike}
use Rattle.ss_rehearse.proofs.laws.devices_are_merged_alike.Goals as goal

pub returns : goal.returns
returns c = merged_alike
