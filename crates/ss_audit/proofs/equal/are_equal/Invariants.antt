use Rattle.std.proofs.Common.{◌≡◌, length, take}
use Rattle.ss_audit.proofs.equal.are_equal.Given as goal

abbrev pub invariant-loop-i : goal.invariant-loop-i
invariant-loop-i g l = record { long : length l.items ≡ length l.others; same : take l.i l.items ≡ take l.i l.others }
