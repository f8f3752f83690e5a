use Rattle.ss_account.proofs.Keeping.{held_by-end}
use Rattle.ss_account.proofs.state.State.end.Goals as goal

pub returns-clause-held : goal.returns-clause-held
returns-clause-held g c =
    held_by-end c.args.ledger.now.ended (g.K.Keeper.told c.args.ledger.now.keeper) (g.K.Keeper.told c.commit.new.self.keeper) c.args.self.now c.finish.new.self c.args.batch c.in_ok-ending.ending
    c.requires.swept c.in_ok-ending.ensures c.in_ok-commit.ensures.done c.finish.ensures c.requires.told
