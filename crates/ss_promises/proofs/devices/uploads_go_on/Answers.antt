use Rattle.ss_promises.proofs.Uploading.{goes_on_uploading}
use Rattle.ss_promises.proofs.devices.uploads_go_on.Goals as goal

pub returns : goal.returns
returns c = goes_on_uploading
