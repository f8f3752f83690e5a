use Rattle.std.proofs.Common.{◌≡◌, take}
use Rattle.ss_bso.specs.Account.{row_at}
use Rattle.ss_bso.specs.Write.{parts_of, put_all}
use Rattle.ss_plain.proofs.rows.made_row.Given as goal

abbrev pub invariant-loop-part : goal.invariant-loop-part
invariant-loop-part l = l.made ≡ put_all l.collection (parts_of l.id (take l.part-index l.parts)) l.stamp (row_at l.collection l.id l.rows)
