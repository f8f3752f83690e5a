use Rattle.std.proofs.Common.{◌≡◌, map, take}
use Rattle.ss_bso.specs.Limits.{rows_of}
use Rattle.ss_index.specs.Shelved.{rows_in}
use Rattle.ss_account.specs.Steps.{counted_rows}
use Rattle.ss_account.proofs.infos.per_collection.Given as goal

abbrev pub invariant-loop-entry : goal.invariant-loop-entry
invariant-loop-entry l = l.numbers.items ≡ map (λ entry. (entry.0, counted_rows l.fn.measure (rows_of entry.0 (rows_in l.shelf)))) (take l.entry-index l.entry-items)
