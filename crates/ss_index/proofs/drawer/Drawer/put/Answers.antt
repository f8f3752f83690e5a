use Rattle.std.proofs.Common.{arith}
use Rattle.std.specs.Prelude.{not, ◌≤◌, length}
use Rattle.ss_bso.specs.declared.rows.Row.{Row}
use Rattle.ss_bso.specs.Limits.{row_bytes}
use Rattle.ss_index.specs.Held.{has_id, rows_but_id}
use Rattle.ss_bso.proofs.Lists.{Each-filter, sum_by-filter_le}
use Rattle.ss_bso.proofs.SameRows.{find-filtered_out}
use Rattle.ss_index.proofs.drawer.Drawer.put.Goals as goal

pub append-requires-clause-new : goal.append-requires-clause-new
append-requires-clause-new c = rw c.take.ensures.rows (find-filtered_out (has_id c.args.row.id) c.args.self.now.rows)

pub append-requires-clause-last : goal.append-requires-clause-last
append-requires-clause-last c =
    rw c.take.ensures.rows (Each-filter (λ (other : Row). other.modified ≤ c.args.row.modified) (λ other. not (has_id c.args.row.id other)) c.args.self.now.rows c.requires.last)

pub append-requires-clause-bytes : goal.append-requires-clause-bytes
append-requires-clause-bytes c =
    let fewer : row_bytes (rows_but_id c.args.row.id c.args.self.now.rows) ≤ row_bytes c.args.self.now.rows = sum_by-filter_le (λ other. not (has_id c.args.row.id other)) (λ (row : Row). length row.payload) c.args.self.now.rows in
    rw c.take.ensures.rows (omega (arith, fewer, c.requires.bytes))
