use Rattle.ss_device_file.proofs.Excluding.{told_once}
use Rattle.ss_device_file.proofs.laws.one_device.Goals as goal

pub returns : goal.returns
returns c = told_once
