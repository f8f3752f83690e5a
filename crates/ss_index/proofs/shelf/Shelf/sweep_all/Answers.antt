use Rattle.std.proofs.Common.{ℕ, List, length, arith, sym, ap, ◌∙◌}
use Rattle.ss_index.specs.Held.{HeldRows}
use Rattle.ss_index.specs.Sweep.{Outlives}
use Rattle.ss_index.proofs.Shelves.{weaker_ends}
use Rattle.ss_index.proofs.SweepingAll.{alive_end, holds_end, holds_imp}
use Rattle.ss_index.proofs.shelf.Shelf.sweep_all.Goals as goal

pub loop-i-preserved : goal.loop-i-preserved
loop-i-preserved c =
    let inv = c.loop-i.invariant in
    record {
      rows = c.sweep_drawer.ensures.rows ∙ inv.rows;
      alive = c.sweep_drawer.ensures.alive inv.alive;
      ends = c.sweep_drawer.ensures.ends c.min-least.result (omega (arith, c.min-least.ensures))
          (holds_imp (Outlives c.loop-i.least) (Outlives c.min-least.result) (λ row h. weaker_ends c.loop-i.least c.min-least.result row (omega (arith, c.min-least.ensures)) h) c.loop-i.self c.loop-i.i inv.ends);
      number = c.sweep_drawer.ensures.number ∙ inv.number;
      room = λ name. omega (arith, inv.room name, c.sweep_drawer.ensures.room name);
    }

pub set_ends-requires : goal.set_ends-requires
set_ends-requires c =
    let inv = c.loop-i.invariant in
    holds_end (Outlives c.loop-i.least) c.loop-i.self c.loop-i.i (omega (arith, inv.number, c.loop-i-test.false, c.len-i-end.ensures.len, ap (λ (drawers : List (List ℕ × HeldRows)). length drawers) c.self.view_is)) inv.ends

pub returns-clause-rows : goal.returns-clause-rows
returns-clause-rows c =
    let inv = c.loop-i.invariant in
    let past = alive_end c.args.moment c.loop-i.self c.loop-i.i (omega (arith, inv.number, c.loop-i-test.false, c.len-i-end.ensures.len, ap (λ (drawers : List (List ℕ × HeldRows)). length drawers) c.self.view_is)) inv.alive in
    rw c.set_ends.ensures (sym past ∙ inv.rows)
