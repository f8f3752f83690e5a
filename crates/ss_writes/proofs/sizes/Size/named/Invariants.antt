use Rattle.std.proofs.Common.{filter_map, take}
use Rattle.ss_bso.specs.Account.{row_at}
use Rattle.ss_index.specs.Shelved.{rows_in}
use Rattle.ss_writes.specs.Parts.{IsSize}
use Rattle.ss_writes.proofs.sizes.Size.named.Given as goal

abbrev pub invariant-loop-id : goal.invariant-loop-id
invariant-loop-id l = IsSize (filter_map (λ id. row_at l.collection id (rows_in l.shelf)) (take l.id-index l.ids)) l.size
