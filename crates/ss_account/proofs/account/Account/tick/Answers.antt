use Rattle.ss_account.proofs.Keeping.{kept_by-beside}
use Rattle.ss_account.proofs.Sound.{sound-tick}
use Rattle.ss_account.proofs.account.Account.tick.Goals as goal

pub tick-requires : goal.tick-requires
tick-requires g c = c.self.invariant.few

pub invariant_of-self : goal.invariant_of-self
invariant_of-self g c =
    sound-tick (g.K.Keeper.told c.self.inside.ledger.keeper) c.self.inside.state c.tick.new.self c.self.inside.ledger.ended c.tick.new.ended c.args.now c.tick.ensures.account c.tick.ensures.ended c.self.invariant

pub returns-clause-valid : goal.returns-clause-valid
returns-clause-valid g c =
    (sound-tick (g.K.Keeper.told c.self.inside.ledger.keeper) c.self.inside.state c.tick.new.self c.self.inside.ledger.ended c.tick.new.ended c.args.now c.tick.ensures.account c.tick.ensures.ended c.self.invariant).valid

pub returns-clause-kept : goal.returns-clause-kept
returns-clause-kept g c =
    let told = g.K.Keeper.told c.self.inside.ledger.keeper in
    kept_by-beside c.tick.new.ended told c.tick.new.self
    (sound-tick told c.self.inside.state c.tick.new.self c.self.inside.ledger.ended c.tick.new.ended c.args.now c.tick.ensures.account c.tick.ensures.ended c.self.invariant).kept

pub returns-clause-again : goal.returns-clause-again
returns-clause-again g c = c.self.invariant.again
