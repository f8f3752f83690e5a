use Rattle.std.proofs.Common.{ap}
use Rattle.ss_query.specs.Marks.{mark_of}
use Rattle.ss_promises.proofs.Running.{is_step}
use Rattle.ss_promises.proofs.accounts.answered.Goals as goal

pub returns-clause-step : goal.returns-clause-step
returns-clause-step g c =
    is_step (mark_of c.step.result) (g.K.Keeper.told c.args.account.now.keeper) (g.K.Keeper.told c.step.new.self.keeper) c.args.account.now.plain c.step.new.self.plain c.args.now c.args.request.now
    c.step.ensures.account c.step.ensures.valid c.step.ensures.held c.step.ensures.refused (λ e. ap g.K.Keeper.told (c.step.ensures.unasked e))
