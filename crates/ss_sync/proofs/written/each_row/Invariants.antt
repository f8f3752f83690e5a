use Rattle.std.proofs.Common.{◌≡◌, ◌++◌, length}
use Rattle.std.specs.Vec.Iter.{into_iter_items, into_iter_len}
use Rattle.ss_sync.specs.Told.{rows_of}
use Rattle.ss_sync.proofs.written.each_row.Given as goal

abbrev pub invariant-loop-id : goal.invariant-loop-id
invariant-loop-id l = record {
  left : into_iter_len l.id-iterator ≡ length (into_iter_items l.id-iterator);
  made : rows_of l.fn.pairs.items ≡ l.sheets.items ++ rows_of (into_iter_items l.id-iterator);
}
