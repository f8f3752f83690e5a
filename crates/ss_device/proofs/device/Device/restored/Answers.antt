use Rattle.ss_device.proofs.device.Device.restored.Goals as goal

pub invariant_of-result : goal.invariant_of-result
invariant_of-result c = record { dead_by_id = c.requires.deaths; mirror_by_id = c.requires.by_id; known = c.requires.known }
