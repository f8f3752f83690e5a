use Rattle.std.proofs.Common.{◌≡◌, take, map}
use Rattle.ss_text.proofs.lines.cut_lines.Given as goal

abbrev pub invariant-loop-line : goal.invariant-loop-line
invariant-loop-line l = l.cut.items ≡ take l.line-index (map (λ line. line.now) l.line-items)
