use Rattle.ss_run_move.specs.Runs.{does}
use Rattle.ss_run_move.proofs.running.run_move.Goals as goal

pub returns-in-Some-clause-runs : goal.returns-in-Some-clause-runs
returns-in-Some-clause-runs g c =
    does c.in-Some.command.verb c.in-Some.command.folder.now c.in-Some.command.uid c.in-Some.ensures.asks c.carry_out.ensures.does
