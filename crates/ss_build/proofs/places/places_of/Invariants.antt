use Rattle.std.proofs.Common.{◌≡◌, take, map}
use Rattle.ss_build.specs.Places.{place}
use Rattle.ss_build.proofs.places.places_of.Given as goal

abbrev pub invariant-loop-word : goal.invariant-loop-word
invariant-loop-word l = l.found.items ≡ map (λ x. place x l.places.keys) (take l.word-index l.words)
