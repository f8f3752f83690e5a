use Rattle.std.proofs.Common.{◌≡◌, ◌≤◌, drop}
use Rattle.ss_index.proofs.drawer.Drawer.clear.Given as goal

abbrev pub invariant-loop : goal.invariant-loop
invariant-loop l = record {
  rows : l.self.rows ≡ drop l.counter l.initial.self.rows;
  spare : l.initial.self.spare ≤ l.self.spare;
}
