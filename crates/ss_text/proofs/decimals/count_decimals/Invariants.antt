use Rattle.std.proofs.Common.{length, ◌-◌, ◌≡◌, ◌+◌, ◌≤◌, drop, filter}
use Rattle.ss_text.specs.Decimals.{outside, pieces, is_wrapped, count_of}
use Rattle.ss_text.proofs.decimals.count_decimals.Given as goal

abbrev pub invariant-loop-at : goal.invariant-loop-at
invariant-loop-at l =
    (l.at ≤ length l.text) × (l.count ≤ l.at) × (l.count + length (filter is_wrapped (pieces outside (drop l.at l.text))) ≡ count_of l.text)

abbrev pub decreases-loop-at : goal.decreases-loop-at
decreases-loop-at l = length l.text - l.at
