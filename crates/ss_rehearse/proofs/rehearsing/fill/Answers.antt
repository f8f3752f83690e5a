use Rattle.std.specs.Prelude.{[], ◌∷◌}
use Rattle.std.proofs.Common.{◌≤◌, ◌+◌, arith}
use Rattle.ss_rehearse.specs.Scripts.{changes, sync, additions}
use Rattle.ss_rehearse.proofs.Playing.{changes_played, played_on, sync_played}
use Rattle.ss_rehearse.proofs.rehearsing.fill.Goals as goal

pub returns-clause-played : goal.returns-clause-played
returns-clause-played c =
    let t1 = c.in_ok-added.added in
    let t2 = c.in_ok-first.first.next in
    let t3 = c.in_ok-second.second.next in
    played_on c.args.world.now c.add_all.new.world c.sync-2.new.world 100 t1 t3 (changes 0 (additions c.args.items c.args.seed) ∷ []) (sync 0 ∷ sync 1 ∷ []) [] (c.in_ok-first.first.posts ∷ c.in_ok-second.second.posts ∷ [])
    (changes_played 0 100 c.args.world.now (additions c.args.items c.args.seed) c.add_all.new.world t1 c.in_ok-added.ensures.changed)
    (played_on c.add_all.new.world c.sync.new.world c.sync-2.new.world t1 t2 t3 (sync 0 ∷ []) (sync 1 ∷ []) (c.in_ok-first.first.posts ∷ []) (c.in_ok-second.second.posts ∷ [])
    (sync_played 0 t1 c.add_all.new.world c.in_ok-first.first.posts c.sync.new.world t2 c.in_ok-first.ensures.synced)
    (sync_played 1 t2 c.sync.new.world c.in_ok-second.second.posts c.sync-2.new.world t3 c.in_ok-second.ensures.synced))

pub sync-requires-clause-early : goal.sync-requires-clause-early
sync-requires-clause-early c =
    let e0 : c.in_ok-added.added ≤ 100 + 1500000 = c.in_ok-added.ensures.early in
    let z : c.in_ok-added.added ≤ 1100000000 = omega (arith, e0) in z

pub returns-clause-early : goal.returns-clause-early
returns-clause-early c =
    let e0 : c.in_ok-added.added ≤ 100 + 1500000 = c.in_ok-added.ensures.early in
    let e1 : c.in_ok-first.first.next ≤ c.in_ok-added.added + 10502500 = c.in_ok-first.ensures.early in
    let e2 : c.in_ok-second.second.next ≤ c.in_ok-first.first.next + 10502500 = c.in_ok-second.ensures.early in
    let z : c.in_ok-second.second.next ≤ 30000000 = omega (arith, e0, e1, e2) in z
