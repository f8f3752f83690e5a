use Rattle.std.proofs.Common.{◌≡◌, ◌++◌, List, length}
use Rattle.ss_desk.specs.declared.pass.RawPass.{RawPass}
use Rattle.ss_town.specs.Steps.{Joining}
use Rattle.ss_town.proofs.town.Town.back.Given as goal

abbrev pub invariant-loop-pass : goal.invariant-loop-pass
invariant-loop-pass g l = Joining l.self.desks.items l.fn.into.passes.items l.fn.other.passes.items l.into.passes.items l.others.items

abbrev pub decreases-loop-pass : goal.decreases-loop-pass
decreases-loop-pass g l = length l.others.items
