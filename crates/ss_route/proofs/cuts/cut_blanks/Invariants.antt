use Rattle.std.proofs.Common.{◌≡◌, ◌≤◌, length, take}
use Rattle.ss_route.proofs.Blanks.{back}
use Rattle.ss_route.proofs.cuts.cut_blanks.Given as goal

abbrev pub invariant-loop-end : goal.invariant-loop-end
invariant-loop-end l = (l.end ≤ length l.text) × (back (take l.end l.text) ≡ back l.text)

abbrev pub decreases-loop-end : goal.decreases-loop-end
decreases-loop-end l = l.end
