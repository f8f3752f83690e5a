use Rattle.ss_rehearse.proofs.Editing.{edited_alike}
use Rattle.ss_rehearse.proofs.laws.devices_are_edited_alike.Goals as goal

pub returns : goal.returns
returns c = edited_alike
