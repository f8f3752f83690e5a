use Rattle.std.specs.Prelude.{◌≡◌, ◌+◌, map, IfSome}
use Rattle.ss_list.specs.Chain.{IsLive, IsWhole}
use Rattle.ss_index.specs.Walk.{WalkView}
use Rattle.ss_index.proofs.walk.walk.Given as goal

abbrev pub invariant-loop : goal.invariant-loop
invariant-loop g l = record {
  live : IfSome l.at (IsLive l.rows);
  whole : IsWhole l.rows;
  walked : WalkView l.query l.rows.nodes l.at l.time (map (λ row. row.now) l.found.items) l.counter;
  steps : l.steps ≡ l.initial.steps + l.counter;
}
