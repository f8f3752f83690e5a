use Rattle.ss_run_move.specs.Moves.{filled}
use Rattle.ss_run_move.proofs.Told.{unrestored}
use Rattle.ss_run_move.proofs.restoring.restore.Goals as goal

pub returns-in-Ok-clause-restores : goal.returns-in-Ok-clause-restores
returns-in-Ok-clause-restores g c = filled c.in-Ok.ensures.told.text c.in-Ok.told c.in-Ok.ensures.told.whole c.in-Ok.ensures.told.dump c.fill.ensures.fills

pub returns-in-Err-clause-restores : goal.returns-in-Err-clause-restores
returns-in-Err-clause-restores g c = unrestored c.args.folder.now c.args.uid c.in-Err.ending _ _ _ c.in-Err.ensures.untold
