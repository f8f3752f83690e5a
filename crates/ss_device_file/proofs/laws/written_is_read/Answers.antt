use Rattle.ss_device_file.proofs.Again.{written_read_back}
use Rattle.ss_device_file.proofs.laws.written_is_read.Goals as goal

pub returns : goal.returns
returns c = written_read_back
