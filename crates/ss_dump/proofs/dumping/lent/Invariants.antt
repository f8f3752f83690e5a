use Rattle.std.proofs.Common.{◌≡◌, map, take}
use Rattle.ss_dump.proofs.dumping.lent.Given as goal

abbrev pub invariant-loop-item : goal.invariant-loop-item
invariant-loop-item g l = map (λ item. item.now) l.lent.items ≡ take l.item-index l.items
