use Rattle.std.proofs.Common.{◌≡◌, ◌≤◌, ℕ, List, length, drop, bytes_eq, option_map}
use Rattle.std.specs.HashMap.{get}
use Rattle.ss_plan.specs.Plan.{reading_at}
use Rattle.ss_plan.proofs.known.known.Given as goal

abbrev pub invariant-loop-at : goal.invariant-loop-at
invariant-loop-at l = record {
  inside : l.at ≤ length l.readings;
  known : (x : List ℕ) → option_map (λ r. r.now) (get bytes_eq l.known x) ≡ reading_at x (drop l.at l.readings);
}

abbrev pub decreases-loop-at : goal.decreases-loop-at
decreases-loop-at l = l.at
