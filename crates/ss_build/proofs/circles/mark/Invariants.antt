use Rattle.std.proofs.Common.{count_by, not, ◌<◌, length}
use Rattle.ss_build.proofs.Marking.{Marking}
use Rattle.ss_build.proofs.circles.mark.Given as goal

abbrev pub invariant-loop-circles : goal.invariant-loop-circles
invariant-loop-circles l = Marking l.next l.fn.circles l.circles l.first l.at × (l.at < length l.next)

abbrev pub decreases-loop-circles : goal.decreases-loop-circles
decreases-loop-circles l = count_by not l.circles
