use Rattle.ss_run_move.proofs.Told.{does_restore}
use Rattle.ss_run_move.proofs.running.carry_out.Goals as goal

pub returns-in-Restore-clause-does : goal.returns-in-Restore-clause-does
returns-in-Restore-clause-does g c = does_restore c.args.command.now.verb _ _ _ _ _ _ _ _ c.in-Restore.is c.restore.ensures.restores
