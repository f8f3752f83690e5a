use Rattle.std.proofs.Common.{take}
use Rattle.ss_build.proofs.Taking.{Listing}
use Rattle.ss_build.proofs.siblings.take_listed.Given as goal

abbrev pub invariant-loop-word : goal.invariant-loop-word
invariant-loop-word l = Listing l.claims l.folder l.fn.order.items l.order.items l.taken (take l.word-index l.word-items)
