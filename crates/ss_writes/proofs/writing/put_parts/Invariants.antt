use Rattle.std.proofs.Common.{◌≡◌, fold, take}
use Rattle.ss_bso.specs.Account.{row_at}
use Rattle.ss_index.specs.Shelved.{rows_in}
use Rattle.ss_writes.specs.Parts.{with_row}
use Rattle.ss_writes.proofs.writing.put_parts.Given as goal

abbrev pub invariant-loop-part : goal.invariant-loop-part
invariant-loop-part l = l.made.entries ≡ fold (with_row l.collection (λ id. row_at l.collection id (rows_in l.shelf)) l.stamp) l.initial.made.entries (take l.part-index l.parts)
