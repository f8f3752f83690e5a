use Rattle.ss_route.proofs.Fit.{asks_fit}
use Rattle.ss_route.proofs.routing.route.Goals as goal

pub returns-in-Ok-clause-fit : goal.returns-in-Ok-clause-fit
returns-in-Ok-clause-fit c = asks_fit _ _ _ c.in-Ok.ensures
