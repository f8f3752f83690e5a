use Rattle.ss_run_sync.proofs.Ends.{causes_of, kept_of}
use Rattle.ss_run_sync.proofs.Joining.{joined_of}
use Rattle.ss_run_sync.proofs.running.run_sync.Goals as goal

pub returns-clause-causes : goal.returns-clause-causes
returns-clause-causes g c = causes_of _ c.run.result _ _ _ _ c.run.ensures

pub returns-clause-kept : goal.returns-clause-kept
returns-clause-kept g c = kept_of _ c.run.result _ _ _ _ c.run.ensures

pub returns-clause-joined : goal.returns-clause-joined
returns-clause-joined g c = joined_of _ c.run.result _ _ _ _ c.run.ensures
