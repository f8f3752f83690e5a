use Rattle.ss_device.specs.Device.{AreById}
use Rattle.ss_client.proofs.synced.Synced.into_device.Goals as goal

pub synced-requires-clause-by_id : goal.synced-requires-clause-by_id
unfolding AreById
synced-requires-clause-by_id c = c.self.invariant.by_id
