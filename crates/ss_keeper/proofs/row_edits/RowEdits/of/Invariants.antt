use Rattle.std.proofs.Common.{◌≡◌, ◌≤◌, drop, length, reverse}
use Rattle.ss_bso.specs.declared.rows.Row.{Row}
use Rattle.ss_keeper.specs.Together.{is_spared, leaves, spared_puts}
use Rattle.ss_keeper.proofs.row_edits.RowEdits.of.Given as goal

abbrev pub invariant-commits : goal.invariant-commits
invariant-commits l = record {
  within : l.at ≤ length l.commits;
  left : (row : Row) → leaves l.edits row ≡ is_spared (drop l.at l.commits) row;
  puts : reverse l.edits.puts.items ≡ spared_puts (drop l.at l.commits);
}

abbrev pub decreases-commits : goal.decreases-commits
decreases-commits l = l.at
