use Rattle.std.proofs.Common.{◌≡◌}
use Rattle.ss_sync.proofs.written.into_pairs.Given as goal

abbrev pub invariant-loop-id : goal.invariant-loop-id
invariant-loop-id l = l.pairs.items ≡ l.yielded
