use Rattle.std.proofs.Common.{◌≡◌, length, take, map}
use Rattle.ss_audit.proofs.equal.are_lent_equal.Given as goal

abbrev pub invariant-loop-i : goal.invariant-loop-i
invariant-loop-i g l = record { long : length l.items ≡ length l.others; same : map (λ item. item.now) (take l.i l.items) ≡ map (λ item. item.now) (take l.i l.others) }
