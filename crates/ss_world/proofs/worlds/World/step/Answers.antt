use Rattle.std.proofs.Common.{◌≡◌}
use Rattle.std.proofs.lemmas.Result.{on_ok_weaker, IfErr-weaker}
use Rattle.ss_world.specs.declared.faults.WorldFault.TheVariants.{Memory}
use Rattle.ss_world.specs.Happening.{Happens}
use Rattle.ss_world.specs.Stepping.{Fails}
use Rattle.ss_world.proofs.Refusing.{passed_over}
use Rattle.ss_world.proofs.Reaching.{stepped, understood, whole}
use Rattle.ss_world.proofs.worlds.World.step.Goals as goal

pub returns-clause-passed : goal.returns-clause-passed
returns-clause-passed c =
    IfErr-weaker c.happen.result (Fails c.args.self.now c.args.happening.now c.happen.new.self) (λ e. (e ≡ Memory → ⊥) → Happens c.args.self.now c.args.happening.now c.happen.new.self)
    (λ e f not_memory. passed_over c.args.self.now c.happen.new.self c.args.happening.now e not_memory f) c.happen.ensures.refused

pub returns-clause-promised : goal.returns-clause-promised
returns-clause-promised c = λ trusts r ok. stepped c.happen.result trusts c.args.self.now c.args.happening.now c.happen.new.self r ok c.happen.ensures.happens c.happen.ensures.refused

pub returns-clause-understood : goal.returns-clause-understood
returns-clause-understood c = on_ok_weaker c.happen.result (λ h trusts r. understood trusts c.args.self.now c.args.happening.now c.happen.new.self r) c.happen.ensures.happens

pub returns-clause-fetched : goal.returns-clause-fetched
returns-clause-fetched c = on_ok_weaker c.happen.result (λ h trusts r. whole trusts c.args.self.now r c.args.happening.now c.happen.new.self h) c.happen.ensures.happens
