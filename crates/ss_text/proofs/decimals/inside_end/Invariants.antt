use Rattle.std.proofs.Common.{length, ◌-◌, ◌≡◌, ◌+◌, ◌<◌, ◌≤◌, drop, true, slice_index}
use Rattle.memchr.specs.Find.{is_byte2}
use Rattle.ss_text.specs.Decimals.{inside}
use Rattle.ss_text.specs.Scan.{inside_len}
use Rattle.ss_text.proofs.decimals.inside_end.Given as goal

abbrev pub invariant-loop-end : goal.invariant-loop-end
invariant-loop-end l =
    (l.end ≤ length l.text) × (l.start + inside_len inside (drop l.start l.text) ≡ l.end + inside_len inside (drop l.end l.text))
    × (l.end < length l.text → is_byte2 34 92 (slice_index l.text l.end) ≡ true)

abbrev pub decreases-loop-end : goal.decreases-loop-end
decreases-loop-end l = length l.text - l.end
