use Rattle.std.proofs.Common.{sym, subst, ap}
use Rattle.ss_bso.specs.Account.{tick}
use Rattle.ss_bso.specs.Validity.{SameAccount}
use Rattle.ss_bso.proofs.Reordering.{same-self}
use Rattle.ss_world.proofs.serving.tick.Goals as goal

pub returns-clause-ticks : goal.returns-clause-ticks
returns-clause-ticks c = record {
  account = subst (SameAccount (tick c.args.account.now.plain c.args.now)) (sym c.tick.ensures.account) (same-self (tick c.args.account.now.plain c.args.now));
  valid = c.tick.ensures.valid;
  left = ap (λ keeper. keeper.kept) c.tick.ensures.keeper;
}
