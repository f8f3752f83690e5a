use Rattle.std.specs.Prelude.{◌≤◌, length}
use Rattle.std.specs.Map.{values_of}
use Rattle.indexmap.specs.IndexMap.{spare}
use Rattle.ss_index.specs.Layout.{IsLayout}
use Rattle.ss_index.specs.Sweep.{Swept}
use Rattle.ss_index.proofs.drawer.Drawer.sweep_counting.Given as goal

abbrev pub invariant-loop : goal.invariant-loop
invariant-loop g l = record {
  kept : IsLayout l.self-inside.places l.self-inside.rows l.self-inside.bytes;
  swept : Swept l.moment (values_of l.initial.self-inside.rows.nodes) l.self-inside.rows.nodes l.at l.counter l.least;
  free : length l.initial.self-inside.rows.free ≤ length l.self-inside.rows.free;
  room : spare l.initial.self-inside.places ≤ spare l.self-inside.places;
}
