use Rattle.std.proofs.Common.{◌≡◌, take, map}
use Rattle.ss_build.specs.Built.{named}
use Rattle.ss_build.specs.Places.{seat}
use Rattle.ss_build.proofs.proposals.named_places.Given as goal

abbrev pub invariant-loop-claim : goal.invariant-loop-claim
invariant-loop-claim l = l.found.items ≡ map (λ e. seat l.claims (named l.claims e)) (take l.claim-index l.claims)
