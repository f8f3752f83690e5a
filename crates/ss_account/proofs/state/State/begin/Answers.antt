use Rattle.std.proofs.Common.{ap, ◌∙◌}
use Rattle.ss_writes.specs.Pending.{begin_changes}
use Rattle.ss_account.proofs.Begun.{begun-back, begun-live}
use Rattle.ss_account.proofs.Keeping.{held_by-begin}
use Rattle.ss_account.proofs.state.State.begin.Goals as goal

pub unbegin-requires : goal.unbegin-requires
unbegin-requires g c = begun-live c.args.self.now c.open_batch.new.self c.args.collection.now c.in_ok-parts.parts.items c.in_ok-batch.ensures.ok

pub returns-in-Ok-clause-held : goal.returns-in-Ok-clause-held
returns-in-Ok-clause-held g c =
    held_by-begin c.args.ledger.now.ended (g.K.Keeper.told c.args.ledger.now.keeper) (g.K.Keeper.told c.commit.new.self.keeper) c.args.self.now c.open_batch.new.self c.args.collection.now c.in_ok-parts.parts.items c.in_ok-changes.changes
    c.requires.swept (c.in_ok-changes.ensures ∙ ap (begin_changes c.args.self.now c.args.ledger.now.ended c.args.collection.now) c.as_slice-2.ensures.value) c.in-Ok.ensures.done c.in_ok-batch.ensures.ok c.requires.told

pub returns-in-Err-clause-err : goal.returns-in-Err-clause-err
returns-in-Err-clause-err g c = begun-back c.args.self.now c.open_batch.new.self c.unbegin.new.self c.args.collection.now c.in_ok-parts.parts.items c.requires.valid c.in_ok-batch.ensures.ok c.unbegin.ensures
