use Rattle.ss_account.proofs.Batching.{live-numbered}
use Rattle.ss_account.proofs.state.State.commit.Goals as goal

pub put_parts-requires : goal.put_parts-requires
put_parts-requires c = record {
  live = live-numbered c.args.self.now c.args.collection.now c.args.batch c.requires.valid c.requires.live;
  valid = c.requires.valid;
}
