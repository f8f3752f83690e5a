use Rattle.std.proofs.Common.{drop, ap, arith, ◌∙◌}
use Rattle.ss_index.proofs.Filling.{drop_more}
use Rattle.ss_index.proofs.drawer.Drawer.clear.Goals as goal

pub loop-preserved : goal.loop-preserved
loop-preserved c = record {
  rows = c.take_front.ensures.rows ∙ ap (λ l. drop 1 l) c.loop.invariant.rows ∙ drop_more c.loop.counter c.args.self.now.rows;
  spare = omega (arith, c.loop.invariant.spare, c.take_front.ensures.spare);
}
