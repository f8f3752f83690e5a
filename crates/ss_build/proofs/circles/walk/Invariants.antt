use Rattle.std.proofs.Common.{count_by, ◌==◌}
use Rattle.ss_build.proofs.Walking.{Walking}
use Rattle.ss_build.proofs.circles.walk.Given as goal

abbrev pub invariant-loop-at : goal.invariant-loop-at
invariant-loop-at l = Walking l.next l.fn.seen l.seen l.number l.start l.at

abbrev pub decreases-loop-at : goal.decreases-loop-at
decreases-loop-at l = count_by (λ s. s == 0) l.seen
