use Rattle.std.proofs.Common.{length, ◌-◌, ◌≡◌, ◌+◌, ◌≤◌, drop}
use Rattle.std.specs.List.{prefix_len}
use Rattle.ss_text.specs.Scan.{is_unescaped}
use Rattle.ss_text.proofs.json_texts.plain_end.Given as goal

abbrev pub invariant-loop-end : goal.invariant-loop-end
invariant-loop-end l =
    (l.end ≤ length l.text) × (l.start + prefix_len is_unescaped (drop l.start l.text) ≡ l.end + prefix_len is_unescaped (drop l.end l.text))

abbrev pub decreases-loop-end : goal.decreases-loop-end
decreases-loop-end l = length l.text - l.end

abbrev pub invariant-loop-end-2 : goal.invariant-loop-end-2
invariant-loop-end-2 l =
    (l.end ≤ length l.text) × (l.start + prefix_len is_unescaped (drop l.start l.text) ≡ l.end + prefix_len is_unescaped (drop l.end l.text))

abbrev pub decreases-loop-end-2 : goal.decreases-loop-end-2
decreases-loop-end-2 l = length l.text - l.end
