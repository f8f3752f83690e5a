use Rattle.std.proofs.Common.{take}
use Rattle.ss_index.specs.Shelved.{rows_in}
use Rattle.ss_index.proofs.Rising.{Rising}
use Rattle.ss_index.proofs.shelf.Shelf.is_in_time.Given as goal

abbrev pub invariant-loop-change : goal.invariant-loop-change
invariant-loop-change l = Rising (rows_in l.self) l.time (take l.change-index l.change-items)
