use Rattle.ss_run_flat.specs.Runs.{flattens}
use Rattle.ss_run_flat.proofs.running.run_flat.Goals as goal

pub returns-in-Some : goal.returns-in-Some
returns-in-Some g c = flattens c.in-Some.kind c.in-Some.ensures.asks c.flat-ending.ensures
