use Rattle.std.proofs.Common.{rules}
use Rattle.ss_town.proofs.Desks.{least_next}
use Rattle.ss_town.proofs.passes.Passes.numbers.Goals as goal

pub loop-pass-preserved : goal.loop-pass-preserved
loop-pass-preserved g c = least_next c.args.self.now.passes.items c.loop-pass.least c.numbers.result c.loop-pass.pass-index c.min-least.result c.pass-item.result c.loop-pass.invariant (search rules) (search rules) c.numbers.ensures c.min-least.ensures
