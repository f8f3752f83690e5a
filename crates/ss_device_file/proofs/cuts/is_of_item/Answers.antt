use Rattle.ss_device_file.specs.Cuts.{item_front}
use Rattle.ss_device_file.proofs.cuts.is_of_item.Goals as goal

pub returns : goal.returns
unfolding item_front
returns c = c.starts_with.ensures.value
