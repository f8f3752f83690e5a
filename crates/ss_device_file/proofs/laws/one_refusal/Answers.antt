use Rattle.ss_device_file.proofs.Excluding.{refused_once}
use Rattle.ss_device_file.proofs.laws.one_refusal.Goals as goal

pub returns : goal.returns
returns c = refused_once
