use Rattle.ss_device.proofs.Known.{synced_device}
use Rattle.ss_device.proofs.device.Device.synced.Goals as goal

pub invariant_of-result : goal.invariant_of-result
invariant_of-result c = synced_device _ _ _ _ c.new.ensures.empty c.requires.by_id c.requires.known
