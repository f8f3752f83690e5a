use Rattle.std.proofs.Common.{take}
use Rattle.ss_bso.specs.Lists.{Pairs}
use Rattle.ss_audit.specs.Validity.{NumberedApart}
use Rattle.ss_audit.proofs.validity.are_numbered_apart.Given as goal

abbrev pub invariant-loop-place : goal.invariant-loop-place
invariant-loop-place l = Pairs NumberedApart (take l.place l.batches)
