use Rattle.std.proofs.Common.{map, ap, subst, ◌∙◌}
use Rattle.ss_bso.specs.Changes.{account_at_opening}
use Rattle.ss_bso.specs.Validity.{SameAccount}
use Rattle.ss_world.specs.declared.seats.Seat.TheVariants.{Idle}
use Rattle.ss_rehearse.specs.Rehearsals.{all_trusted}
use Rattle.ss_rehearse.proofs.Fresh.{fresh_idle, fresh_is, openable}
use Rattle.ss_rehearse.proofs.opening.open.Goals as goal

pub returns-in-Ok-clause-fresh : goal.returns-in-Ok-clause-fresh
returns-in-Ok-clause-fresh c =
    fresh_is c.in-Ok.world c.in_ok-first.first c.in_ok-second.second (subst (λ k. SameAccount (account_at_opening k) c.in-Ok.world.server.account) c.fresh.ensures c.in-Ok.ensures.opened) (c.in-Ok.ensures.kept ∙ c.fresh.ensures)
    (c.in-Ok.ensures.devices ∙ ap (map Idle) c.in_ok-devices.ensures.items) c.in_ok-first.ensures.new c.in_ok-second.ensures.new c.in_ok-first.ensures.is_tree c.in_ok-second.ensures.is_tree

pub returns-in-Ok-clause-reached : goal.returns-in-Ok-clause-reached
returns-in-Ok-clause-reached c = c.in-Ok.ensures.reached all_trusted (openable c.in-Ok.world (returns-in-Ok-clause-fresh c))

pub returns-in-Ok-clause-idle : goal.returns-in-Ok-clause-idle
returns-in-Ok-clause-idle c = fresh_idle c.in-Ok.world (returns-in-Ok-clause-fresh c)
