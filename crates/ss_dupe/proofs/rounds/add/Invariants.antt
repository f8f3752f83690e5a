use Rattle.std.proofs.Common.{◌≡◌, ◌||◌}
use Rattle.ss_dupe.specs.Looks.{Id}
use Rattle.ss_dupe.specs.News.{has_pair, Adds}
use Rattle.ss_dupe.proofs.rounds.add.Given as goal

abbrev pub invariant-loop-local : goal.invariant-loop-local
invariant-loop-local l = record {
  nexts : (x : Id) (y : Id) → has_pair x y l.next.items ≡ (has_pair x y l.initial.next.items || has_pair x y l.yielded);
  founds : Adds l.initial.found l.found l.yielded;
}
