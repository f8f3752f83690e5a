use Rattle.std.proofs.Common.{◌≡◌, length}
use Rattle.std.specs.Vec.Iter.{into_iter_items, into_iter_len}
use Rattle.ss_sync.proofs.Fetching.{Added}
use Rattle.ss_sync.proofs.fetched.Fetched.add.Given as goal

abbrev pub invariant-loop-sheet : goal.invariant-loop-sheet
invariant-loop-sheet l = record {
  left : into_iter_len l.sheet-iterator ≡ length (into_iter_items l.sheet-iterator);
  added : Added l.fn.self l.self (into_iter_items l.sheet-iterator) l.fn.rows.items;
}
