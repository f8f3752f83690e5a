use Rattle.std.proofs.Common.{take}
use Rattle.ss_bso.specs.Lists.{Each}
use Rattle.ss_bso.specs.Validity.{IsValidBatch}
use Rattle.ss_audit.proofs.validity.has_valid_batches.Given as goal

abbrev pub invariant-loop-staged : goal.invariant-loop-staged
invariant-loop-staged l = Each (IsValidBatch l.account) (take l.staged-index l.batches)
