use Rattle.ss_run_flat.proofs.Flattened.{one_out}
use Rattle.ss_run_flat.proofs.laws.one_output.Goals as goal

pub returns : goal.returns
returns c = one_out
