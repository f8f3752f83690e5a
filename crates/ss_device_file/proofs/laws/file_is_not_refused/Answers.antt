use Rattle.ss_device_file.proofs.Excluding.{not_refused}
use Rattle.ss_device_file.proofs.laws.file_is_not_refused.Goals as goal

pub returns : goal.returns
returns c = not_refused
