use Rattle.std.proofs.Common.{◌≡◌, take}
use Rattle.ss_build.proofs.places.words_of.Given as goal

abbrev pub invariant-loop-id : goal.invariant-loop-id
invariant-loop-id l = l.words.items ≡ take l.id-index l.ids
