use Rattle.std.proofs.Common.{subst}
use Rattle.std.specs.Result.{IfOk}
use Rattle.ss_bso.specs.Validity.{SameAccount}
use Rattle.ss_account.specs.Held.{AccountWithKeeper}
use Rattle.ss_account.specs.Keeping.{IsKeptBy}
use Rattle.ss_account.proofs.Keeping.{kept_by-beside}
use Rattle.ss_account.proofs.account.Account.plain.Goals as goal

pub returns-clause-plain : goal.returns-clause-plain
returns-clause-plain g c = subst (λ (a : AccountWithKeeper _). IfOk c.plain.result (λ plain. SameAccount a.plain plain)) c.self.view_is c.plain.ensures

pub returns-clause-kept : goal.returns-clause-kept
returns-clause-kept g c =
    subst (λ (a : AccountWithKeeper _). IsKeptBy (g.K.Keeper.told a.keeper) a.plain) c.self.view_is (kept_by-beside c.self.inside.ledger.ended (g.K.Keeper.told c.self.inside.ledger.keeper) c.self.inside.state c.self.invariant.kept)
