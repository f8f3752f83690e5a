use Rattle.std.proofs.Common.{length, ◌-◌, ◌≡◌, ◌++◌, ◌≤◌, drop, ℕ, List}
use Rattle.json.specs.Print.{escape}
use Rattle.ss_text.proofs.json_texts.push_escaped.Given as goal

-- what is still to come, and that the front is what was there
abbrev pub invariant-loop-at : goal.invariant-loop-at
invariant-loop-at l =
    (l.at ≤ length l.text) × (l.out.items ++ escape (drop l.at l.text) ≡ l.initial.out.items ++ escape l.text) × ((rest : List ℕ) × (l.out.items ≡ l.initial.out.items ++ rest))

abbrev pub decreases-loop-at : goal.decreases-loop-at
decreases-loop-at l = length l.text - l.at
