use Rattle.ss_desk.specs.Passes.{AreOf}
use Rattle.ss_town.specs.Town.{desks_of, passes_of}
use Rattle.cases_threads.proofs.terms.connections.lines.Given as goal

abbrev pub invariant-loop-planned : goal.invariant-loop-planned
invariant-loop-planned g l = AreOf (desks_of l.town) (passes_of l.passes)
