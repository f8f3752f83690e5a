use Rattle.std.proofs.Common.{subst}
use Rattle.std.specs.Prelude.{IfOk}
use Rattle.ss_dupe.specs.Pairs.{ArePairs}
use Rattle.ss_dupe.proofs.rounds.pair_dupes.Goals as goal

pub returns : goal.returns
returns c = subst (λ s. IfOk c.pair_read.result (λ pairs. ArePairs s pairs.items)) c.in_ok-plains.ensures.same c.pair_read.ensures
