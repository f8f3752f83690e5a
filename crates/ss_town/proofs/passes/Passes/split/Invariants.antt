use Rattle.std.proofs.Common.{◌≡◌, ◌≤◌, ◌++◌, List, length}
use Rattle.std.specs.Prelude.{vec_capacity}
use Rattle.ss_town.specs.Steps.{Halving}
use Rattle.ss_town.proofs.passes.Passes.split.Given as goal

abbrev pub invariant-loop-i : goal.invariant-loop-i
invariant-loop-i g l = record {
  halves : Halving l.town.desks.items l.fn.self.passes.items l.self.passes.items l.others.items l.i;
  room : l.i-end ≤ vec_capacity l.others;
  end : l.i-end ≡ length l.fn.self.passes.items;
}
