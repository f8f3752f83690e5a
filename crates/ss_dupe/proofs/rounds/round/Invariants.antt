use Rattle.std.proofs.Common.{◌≡◌, ◌↔◌, true, take}
use Rattle.ss_dupe.specs.Looks.{Id}
use Rattle.ss_dupe.specs.Pairs.{AreAlike}
use Rattle.ss_dupe.specs.Plains.{view}
use Rattle.ss_dupe.specs.News.{has_pair, Adds}
use Rattle.ss_dupe.proofs.rounds.round.Given as goal

abbrev pub invariant-loop-local : goal.invariant-loop-local
invariant-loop-local l = record {
  nexts : (x : Id) (y : Id) → (has_pair x y l.next.items ≡ true) ↔ ((p : Id) × (q : Id) × (has_pair p q (take l.local-index l.current) ≡ true) × AreAlike (view l.plains) x y p q);
  founds : Adds l.initial.found l.found l.next.items;
}
