use Rattle.ss_device_file.proofs.ListParts.{part_is}
use Rattle.ss_device_file.proofs.values.part_at.Goals as goal

pub returns : goal.returns
returns c = part_is _ _ _ c.get.ensures.lookup
