use Rattle.std.proofs.Common.{◌≡◌, sym, subst}
use Rattle.std.proofs.lemmas.Option.{same_Some}
use Rattle.ss_bso.specs.declared.changes.Kept.{Kept}
use Rattle.ss_bso.specs.Changes.{account_at_opening}
use Rattle.ss_bso.specs.Validity.{SameAccount}
use Rattle.ss_account.specs.Opening.{IsGood}
use Rattle.ss_world.specs.Worlds.{server_of}
use Rattle.ss_world.proofs.Stepping.{world}
use Rattle.ss_world.proofs.Reaching.{opening_reached}
use Rattle.ss_world.proofs.worlds.World.new.Goals as goal

pub returns-in-Ok-clause-reached : goal.returns-in-Ok-clause-reached
returns-in-Ok-clause-reached c =
    let is : c.new-keeper.result.kept ≡ c.in-Ok.account.keeper.kept = sym (same_Some c.in-Ok.account.keeper.kept c.new-keeper.result.kept c.in-Ok.ensures.left) in
    λ trusts o. opening_reached trusts (world (server_of c.in-Ok.account) c.in_ok-seats.seats.items) c.args.devices.items c.in-Ok.ensures.valid
    (subst (λ (k : Kept). SameAccount (account_at_opening k) c.in-Ok.account.plain) is c.in-Ok.ensures.opened) (subst IsGood is c.in-Ok.ensures.good) c.in_ok-seats.ensures.seats c.in_ok-seats.ensures.valid o
