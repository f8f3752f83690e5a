use Rattle.std.proofs.Common.{subst, sym, ap, ◌∙◌}
use Rattle.ss_bso.specs.declared.account.Plain.{Plain}
use Rattle.ss_bso.specs.Validity.{SameAccount}
use Rattle.ss_bso.proofs.Reordering.{same-through}
use Rattle.ss_laws.specs.Journal.{Journal}
use Rattle.ss_laws.specs.Journals.{account_after}
use Rattle.ss_booked.specs.Book.{Book}
use Rattle.ss_booked.proofs.Entering.{legal-begun, room-begun, sound-begun}
use Rattle.ss_booked.proofs.bound.Bound.fold.Goals as goal

pub invariant_of-self : goal.invariant_of-self
invariant_of-self g c =
    sound-begun (g.K.Keeper.told c.self.inside.account.keeper) c.self.inside.account.plain c.in_ok-opening.opening c.restart.new.self c.self.inside.journal.most _ _
    c.restart.ensures.begun (ap g.K.Keeper.keep_faults (c.of-before.ensures ∙ c.keeper.ensures)) c.in_ok-opening.ensures.plain c.plain.ensures.valid c.plain.ensures.kept c.plain.ensures.again

pub returns-clause-follows : goal.returns-clause-follows
returns-clause-follows g c =
    subst (λ (b : Book _). SameAccount (account_after b.journal.opening b.journal.entries) c.restart.new.self.opening) c.self.view_is
    (subst (λ (j : Journal). SameAccount (account_after c.self.inside.journal.opening c.self.inside.journal.entries) j.opening) (sym c.restart.ensures.begun)
    (same-through (account_after c.self.inside.journal.opening c.self.inside.journal.entries) c.self.inside.account.plain c.in_ok-opening.opening c.self.invariant.leaves c.in_ok-opening.ensures.plain))

pub returns-clause-legal : goal.returns-clause-legal
returns-clause-legal g c = legal-begun c.self.inside.account.plain c.in_ok-opening.opening c.restart.new.self c.self.inside.journal.most c.restart.ensures.begun c.plain.ensures.valid c.in_ok-opening.ensures.plain

pub returns-clause-roomy : goal.returns-clause-roomy
returns-clause-roomy g c = room-begun c.in_ok-opening.opening c.restart.new.self c.self.inside.journal.most c.restart.ensures.begun
