use Rattle.std.proofs.Common.{◌≡◌, take}
use Rattle.ss_build.specs.Built.{ids}
use Rattle.ss_build.specs.Places.{untaken}
use Rattle.ss_build.proofs.siblings.not_taken.Given as goal

abbrev pub invariant-loop-i : goal.invariant-loop-i
invariant-loop-i l = l.left.items ≡ untaken (take l.i (ids l.claims)) (take l.i l.taken)
