use Rattle.std.proofs.Common.{length, ◌-◌, ◌≡◌, ◌≤◌, ◌++◌, drop}
use Rattle.std.specs.List.{flat_map}
use Rattle.ss_text.specs.Decimals.{outside, pieces, bytes_of_piece, changed_piece, changed_text}
use Rattle.ss_text.proofs.decimals.rewrite.Given as goal

abbrev pub invariant-loop-at : goal.invariant-loop-at
invariant-loop-at l =
    (l.at ≤ length l.text) × (l.out.items ++ flat_map bytes_of_piece (flat_map (changed_piece l.change) (pieces outside (drop l.at l.text))) ≡ changed_text l.change l.text)

abbrev pub decreases-loop-at : goal.decreases-loop-at
decreases-loop-at l = length l.text - l.at
