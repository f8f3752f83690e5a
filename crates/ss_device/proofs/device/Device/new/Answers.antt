use Rattle.ss_device.proofs.Known.{new_device}
use Rattle.ss_device.proofs.device.Device.new.Goals as goal

pub invariant_of-result : goal.invariant_of-result
invariant_of-result c = new_device _ _ _ _ c.new-2.ensures.empty c.new-3.ensures.items c.in_ok-new.ensures
