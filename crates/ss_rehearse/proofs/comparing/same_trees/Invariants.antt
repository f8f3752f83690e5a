use Rattle.std.proofs.Common.{◌≡◌, drop}
use Rattle.std.specs.Cmp.Lexicographic.{pointwise}
use Rattle.ss_rehearse.specs.Summaries.{same_place}
use Rattle.ss_rehearse.proofs.comparing.same_trees.Given as goal

abbrev pub invariant-loop-at : goal.invariant-loop-at
invariant-loop-at l = pointwise (same_place l.first l.second) l.ones.items l.others.items ≡ pointwise (same_place l.first l.second) (drop l.at l.ones.items) (drop l.at l.others.items)
