use Rattle.std.proofs.Common.{◌≡◌, map}
use Rattle.ss_bso.specs.Batches.{grown}
use Rattle.ss_plain.proofs.batches.grow_all.Given as goal

abbrev pub invariant-loop-staged : goal.invariant-loop-staged
invariant-loop-staged l = l.left.items ≡ map (grown l.number l.parts) l.yielded
