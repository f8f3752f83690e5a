use Rattle.std.specs.Prelude.{[], ◌∷◌}
use Rattle.ss_rehearse.specs.Scripts.{sync}
use Rattle.ss_rehearse.proofs.Playing.{played_on, sync_played}
use Rattle.ss_rehearse.proofs.rehearsing.meet.Goals as goal

pub returns-clause-played : goal.returns-clause-played
returns-clause-played c =
    let t1 = c.in_ok-first.first.next in
    let t2 = c.in_ok-second.second.next in
    let t3 = c.in_ok-third.third.next in
    played_on c.args.world.now c.sync.new.world c.sync-3.new.world c.args.now t1 t3 (sync 0 ∷ []) (sync 1 ∷ sync 0 ∷ []) (c.in_ok-first.first.posts ∷ []) (c.in_ok-second.second.posts ∷ c.in_ok-third.third.posts ∷ [])
    (sync_played 0 c.args.now c.args.world.now c.in_ok-first.first.posts c.sync.new.world t1 c.in_ok-first.ensures.synced)
    (played_on c.sync.new.world c.sync-2.new.world c.sync-3.new.world t1 t2 t3 (sync 1 ∷ []) (sync 0 ∷ []) (c.in_ok-second.second.posts ∷ []) (c.in_ok-third.third.posts ∷ [])
    (sync_played 1 t1 c.sync.new.world c.in_ok-second.second.posts c.sync-2.new.world t2 c.in_ok-second.ensures.synced)
    (sync_played 0 t2 c.sync-2.new.world c.in_ok-third.third.posts c.sync-3.new.world t3 c.in_ok-third.ensures.synced))
