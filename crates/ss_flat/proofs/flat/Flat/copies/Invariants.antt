use Rattle.std.proofs.Common.{◌≡◌, map, take}
use Rattle.ss_flat.specs.Joining.{entry_heard}
use Rattle.ss_flat.proofs.flat.Flat.copies.Given as goal

abbrev pub invariant-loop-i : goal.invariant-loop-i
invariant-loop-i l = map entry_heard l.copies.items ≡ map entry_heard (take l.i l.self.entries)
