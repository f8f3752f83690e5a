use Rattle.std.proofs.Common.{length}
use Rattle.ss_flat.proofs.Putting.{PutFrom}
use Rattle.ss_flat.proofs.flat.Flat.put_all.Given as goal

abbrev pub decreases-entries : goal.decreases-entries
decreases-entries l = length l.more.items

abbrev pub invariant-entries : goal.invariant-entries
invariant-entries l = PutFrom l.initial.more.items l.more.items l.initial.self l.self
