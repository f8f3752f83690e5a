use Rattle.std.proofs.Common.{◌≡◌, take}
use Rattle.ss_bso.proofs.account.Times.copy.Given as goal

abbrev pub invariant-loop-entry : goal.invariant-loop-entry
invariant-loop-entry l = l.times.items ≡ take l.entry-index l.entry-items
