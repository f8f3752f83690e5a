use Rattle.std.proofs.Common.{◌≡◌}
use Rattle.ss_dupe.proofs.rounds.into_pairs.Given as goal

abbrev pub invariant-loop-local : goal.invariant-loop-local
invariant-loop-local l = l.pairs.items ≡ l.yielded
