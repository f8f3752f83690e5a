use Rattle.std.proofs.Common.{◌≡◌, ◌≤◌, ◌&&◌, ◌++◌, ℕ, List, not, drop, filter, length, reverse}
use Rattle.ss_keeper.specs.Together.{is_set, last_times, leaves_time}
use Rattle.ss_keeper.proofs.time_edits.TimeEdits.add_changes.Given as goal

abbrev pub invariant-changes : goal.invariant-changes
invariant-changes l = record {
  within : l.at ≤ length l.changes;
  left : (name : List ℕ) → leaves_time l.self name ≡ (not (is_set (drop l.at l.changes) name) && leaves_time l.initial.self name);
  times : reverse l.self.times.items ≡ filter (λ entry. leaves_time l.initial.self entry.0) (last_times (drop l.at l.changes)) ++ reverse l.initial.self.times.items;
}

abbrev pub decreases-changes : goal.decreases-changes
decreases-changes l = l.at
