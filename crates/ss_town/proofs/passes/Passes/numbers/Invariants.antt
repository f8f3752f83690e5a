use Rattle.ss_town.specs.Steps.{LeastBelow}
use Rattle.ss_town.proofs.passes.Passes.numbers.Given as goal

abbrev pub invariant-loop-pass : goal.invariant-loop-pass
invariant-loop-pass g l = LeastBelow l.least l.self.passes.items l.pass-index
