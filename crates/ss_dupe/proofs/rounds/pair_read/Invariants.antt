use Rattle.ss_dupe.specs.Plains.{view}
use Rattle.ss_dupe.proofs.Depths.{After}
use Rattle.ss_dupe.proofs.rounds.pair_read.Given as goal

abbrev pub invariant-loop-step : goal.invariant-loop-step
invariant-loop-step l = After (view l.plains) l.step l.current.items l.found
