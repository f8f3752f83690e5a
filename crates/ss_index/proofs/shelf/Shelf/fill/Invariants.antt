use Rattle.ss_index.specs.Shelved.{rows_in}
use Rattle.ss_index.proofs.Filling.{Filled}
use Rattle.ss_index.proofs.shelf.Shelf.fill.Given as goal

abbrev pub invariant-loop-row : goal.invariant-loop-row
invariant-loop-row l = Filled l.initial.row-iterator.rest.items (rows_in l.self) l.row-iterator.rest.items
