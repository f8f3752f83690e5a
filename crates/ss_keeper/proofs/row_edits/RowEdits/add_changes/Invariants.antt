use Rattle.std.proofs.Common.{◌≡◌, ◌≤◌, ◌&&◌, ◌++◌, not, drop, filter, length, reverse}
use Rattle.ss_bso.specs.declared.rows.Row.{Row}
use Rattle.ss_keeper.specs.Together.{is_touched, last_puts, leaves}
use Rattle.ss_keeper.proofs.row_edits.RowEdits.add_changes.Given as goal

abbrev pub invariant-changes : goal.invariant-changes
invariant-changes l = record {
  within : l.at ≤ length l.changes;
  left : (row : Row) → leaves l.self row ≡ (not (is_touched (drop l.at l.changes) row) && leaves l.initial.self row);
  puts : reverse l.self.puts.items ≡ filter (leaves l.initial.self) (last_puts (drop l.at l.changes)) ++ reverse l.initial.self.puts.items;
}

abbrev pub decreases-changes : goal.decreases-changes
decreases-changes l = l.at
