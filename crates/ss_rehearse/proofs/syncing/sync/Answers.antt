use Rattle.ss_rehearse.proofs.Delivering.{started, sync_early, sync_ends}
use Rattle.ss_rehearse.proofs.syncing.sync.Goals as goal

pub deliver_all-requires-clause-under_way : goal.deliver_all-requires-clause-under_way
deliver_all-requires-clause-under_way c = started c.args.world.now c.start.new.world c.args.device c.requires.idle c.in_ok-start.ensures

pub returns-clause-synced : goal.returns-clause-synced
returns-clause-synced c =
    sync_ends c.args.device c.args.now c.args.world.now c.start.new.world c.deliver_all.new.world c.deliver_all.result (λ s. s.posts) (λ s. s.next) c.in_ok-start.ensures c.deliver_all.ensures.asking c.deliver_all.ensures.idle

pub returns-clause-early : goal.returns-clause-early
returns-clause-early c = sync_early c.args.device c.args.now c.start.new.world c.deliver_all.new.world c.deliver_all.result (λ s. s.posts) (λ s. s.next) c.deliver_all.ensures.asking
