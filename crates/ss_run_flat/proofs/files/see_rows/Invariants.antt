use Rattle.std.proofs.Common.{◌-◌, length}
use Rattle.ss_run_flat.proofs.SeenRows.{AreSoFar}
use Rattle.ss_run_flat.proofs.files.see_rows.Given as goal

abbrev pub invariant-rows : goal.invariant-rows
invariant-rows l = AreSoFar l.fn.kind l.text l.flat l.line l.used

abbrev pub decreases-rows : goal.decreases-rows
decreases-rows l = length l.text - l.used
