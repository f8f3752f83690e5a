use Rattle.std.proofs.Common.{◌≡◌, take}
use Rattle.ss_build.specs.Places.{parents_of}
use Rattle.ss_build.proofs.parents.parents_of.Given as goal

abbrev pub invariant-loop-i : goal.invariant-loop-i
invariant-loop-i l = l.parents.items ≡ take l.i (parents_of l.claims)
