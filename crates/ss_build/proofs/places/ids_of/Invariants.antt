use Rattle.std.proofs.Common.{◌≡◌, take}
use Rattle.ss_build.specs.Built.{ids}
use Rattle.ss_build.proofs.places.ids_of.Given as goal

abbrev pub invariant-loop-claim : goal.invariant-loop-claim
invariant-loop-claim l = l.places.keys ≡ take l.claim-index (ids l.claims)
