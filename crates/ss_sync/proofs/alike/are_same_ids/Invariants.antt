use Rattle.std.proofs.Common.{◌≡◌, length, take}
use Rattle.ss_sync.specs.Equal.{ids_at}
use Rattle.ss_sync.proofs.alike.are_same_ids.Given as goal

abbrev pub invariant-loop-i : goal.invariant-loop-i
invariant-loop-i l = record { long : length l.nodes ≡ length l.others; same : ids_at l.tree (take l.i l.nodes) ≡ ids_at l.other (take l.i l.others) }
