use Rattle.std.proofs.Common.{◌-◌, length}
use Rattle.ss_run_edit.proofs.Rows.{AreSoFar}
use Rattle.ss_run_edit.proofs.remotes.read_remotes.Given as goal

abbrev pub invariant-rows : goal.invariant-rows
invariant-rows l = AreSoFar l.text l.rows.items l.used

abbrev pub decreases-rows : goal.decreases-rows
decreases-rows l = length l.text - l.used
