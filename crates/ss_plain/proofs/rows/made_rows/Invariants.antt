use Rattle.std.proofs.Common.{◌≡◌, filter_map, take}
use Rattle.ss_bso.specs.Account.{row_at}
use Rattle.ss_bso.specs.Write.{parts_of, put_all}
use Rattle.ss_plain.proofs.rows.made_rows.Given as goal

abbrev pub invariant-loop-id : goal.invariant-loop-id
invariant-loop-id l = l.made.items ≡ filter_map (λ id. put_all l.collection (parts_of id l.parts) l.stamp (row_at l.collection id l.rows)) (take l.id-index l.ids)
