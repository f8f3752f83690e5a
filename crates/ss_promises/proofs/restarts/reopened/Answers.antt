use Rattle.std.proofs.Common.{ap, subst, ◌∙◌}
use Rattle.ss_account.specs.Keeping.{IsKeptBy}
use Rattle.ss_promises.proofs.Reopening.{opened_on}
use Rattle.ss_promises.proofs.restarts.reopened.Goals as goal

pub returns-clause-goes_on : goal.returns-clause-goes_on
returns-clause-goes_on g c =
    let told = g.K.Keeper.told in
    opened_on (λ again. again.plain) c.open.result (told c.args.account.keeper) (told c.into_keeper.result) c.args.account.plain c.tick.new.self.plain
    (ap told (c.into_keeper.ensures ∙ c.tick.ensures.keeper)) c.tick.ensures.account c.tick.ensures.valid
    (subst (λ t. IsKeptBy t c.tick.new.self.plain) (ap told c.tick.ensures.keeper) c.tick.ensures.kept) c.open.ensures.opened
