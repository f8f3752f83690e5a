use Rattle.ss_run_move.proofs.Told.{untold_for}
use Rattle.ss_run_move.proofs.restoring.told_by.Goals as goal

pub returns-clause-untold : goal.returns-clause-untold
returns-clause-untold g c =
    untold_for c.in-Ok.text.items c.as_slice.result.now c.in-Err-undump.fault c.from.result _ _ c.as_slice.ensures.value c.in-Ok.ensures.whole c.in-Err-undump.ensures.refused c.from.ensures
