use Rattle.std.proofs.Common.{◌≡◌, length, take}
use Rattle.ss_sync.specs.Equal.{AreUntimedAt}
use Rattle.ss_sync.proofs.alike.is_untimed.Given as goal

abbrev pub invariant-loop-i : goal.invariant-loop-i
invariant-loop-i l = record {
  long : length l.node-items ≡ length l.others.items;
  same : AreUntimedAt l.tree (take l.i l.node-items) l.other (take l.i l.others.items);
}
