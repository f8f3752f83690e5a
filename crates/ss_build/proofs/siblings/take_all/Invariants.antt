use Rattle.std.proofs.Common.{◌≡◌, ◌++◌, take}
use Rattle.ss_build.specs.Places.{IsTakenSoFar, names}
use Rattle.ss_build.proofs.siblings.take_all.Given as goal

abbrev pub invariant-loop-word : goal.invariant-loop-word
invariant-loop-word l = (names l.places.keys l.order.items ≡ names l.places.keys l.fn.order.items ++ take l.word-index l.words) × IsTakenSoFar l.places.keys l.order.items l.taken
