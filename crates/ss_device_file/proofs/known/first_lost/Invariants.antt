use Rattle.std.proofs.Common.{◌≡◌, drop, find}
use Rattle.ss_tree.specs.Entries.{tree}
use Rattle.ss_device_file.specs.Joining.{loses}
use Rattle.ss_device_file.proofs.known.first_lost.Given as goal

abbrev pub invariant-loop-row : goal.invariant-loop-row
invariant-loop-row l = find (loses (tree l.tree) l.dead.entries) l.rows ≡ find (loses (tree l.tree) l.dead.entries) (drop l.row-index l.rows)
