use Rattle.ss_run_flat.proofs.Flattened.{same_rows}
use Rattle.ss_run_flat.proofs.laws.same_rows_same_output.Goals as goal

pub returns : goal.returns
returns c = same_rows
