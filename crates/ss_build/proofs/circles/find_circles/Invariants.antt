use Rattle.ss_build.specs.Marks.{Rounds}
use Rattle.ss_build.proofs.circles.find_circles.Given as goal

abbrev pub invariant-loop-start : goal.invariant-loop-start
invariant-loop-start l = Rounds l.next l.seen.items l.circles.items l.start
