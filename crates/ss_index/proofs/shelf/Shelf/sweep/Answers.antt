use Rattle.std.proofs.Common.{arith}
use Rattle.ss_index.specs.Shelved.{rows_in}
use Rattle.ss_index.proofs.SweepingAll.{nothing_ended}
use Rattle.ss_index.proofs.shelf.Shelf.sweep.Goals as goal

pub returns-then-get-self-clause-rows : goal.returns-then-get-self-clause-rows
returns-then-get-self-clause-rows c =
    rw (← c.self.view_is) (nothing_ended c.self.inside.ends c.args.moment (rows_in c.self.inside.drawers.entries) (omega (arith, c.get.ensures)) c.self.invariant.outlive)
