use Rattle.std.proofs.Common.{◌≡◌, length, take}
use Rattle.ss_sync.proofs.joining.are_same.Given as goal

abbrev pub invariant-loop-i : goal.invariant-loop-i
invariant-loop-i l = record { long : length l.sheets ≡ length l.others; same : take l.i l.sheets ≡ take l.i l.others }
