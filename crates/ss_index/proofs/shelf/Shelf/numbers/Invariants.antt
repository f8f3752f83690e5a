use Rattle.std.proofs.Common.{◌≡◌, take}
use Rattle.ss_index.specs.Numbers.{entries_of}
use Rattle.ss_index.proofs.shelf.Shelf.numbers.Given as goal

abbrev pub invariant-loop-i : goal.invariant-loop-i
invariant-loop-i l = l.numbers.items ≡ entries_of l.measure (take l.i l.self)
