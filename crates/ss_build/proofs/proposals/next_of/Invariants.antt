use Rattle.std.proofs.Common.{◌≡◌, take}
use Rattle.ss_build.specs.Places.{next_of}
use Rattle.ss_build.proofs.proposals.next_of.Given as goal

abbrev pub invariant-loop-i : goal.invariant-loop-i
invariant-loop-i l = l.next.items ≡ take l.i (next_of l.claims)
