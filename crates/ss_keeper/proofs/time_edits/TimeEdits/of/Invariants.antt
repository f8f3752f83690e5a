use Rattle.std.proofs.Common.{◌≡◌, ◌≤◌, ℕ, List, drop, length, reverse}
use Rattle.ss_keeper.specs.Together.{is_time_spared, leaves_time, spared_times}
use Rattle.ss_keeper.proofs.time_edits.TimeEdits.of.Given as goal

abbrev pub invariant-commits : goal.invariant-commits
invariant-commits l = record {
  within : l.at ≤ length l.commits;
  left : (name : List ℕ) → leaves_time l.edits name ≡ is_time_spared (drop l.at l.commits) name;
  times : reverse l.edits.times.items ≡ spared_times (drop l.at l.commits);
}

abbrev pub decreases-commits : goal.decreases-commits
decreases-commits l = l.at
