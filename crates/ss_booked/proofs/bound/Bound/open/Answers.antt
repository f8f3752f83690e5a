use Rattle.std.proofs.Common.{ap, ◌∙◌}
use Rattle.ss_booked.proofs.Entering.{legal-begun, room-begun, sound-begun}
use Rattle.ss_booked.proofs.bound.Bound.open.Goals as goal

pub invariant_of-result : goal.invariant_of-result
invariant_of-result g c =
    sound-begun (g.K.Keeper.told c.args.account.keeper) c.args.account.plain c.in-Ok.opening c.in-Ok-new.journal c.args.most _ _
    c.in-Ok-new.ensures.begun (ap g.K.Keeper.keep_faults (c.of-before.ensures ∙ c.keeper.ensures)) c.in-Ok.ensures.plain c.plain.ensures.valid c.plain.ensures.kept c.plain.ensures.again

pub returns-clause-legal : goal.returns-clause-legal
returns-clause-legal g c = legal-begun c.args.account.plain c.in-Ok.opening c.in-Ok-new.journal c.args.most c.in-Ok-new.ensures.begun c.plain.ensures.valid c.in-Ok.ensures.plain

pub returns-clause-roomy : goal.returns-clause-roomy
returns-clause-roomy g c = room-begun c.in-Ok.opening c.in-Ok-new.journal c.args.most c.in-Ok-new.ensures.begun
