use Rattle.ss_rehearse.proofs.Delivering.{not_posted, posted}
use Rattle.ss_rehearse.proofs.syncing.deliver_all.Goals as goal

pub loop-is_post-smaller-then-is_post : goal.loop-is_post-smaller-then-is_post
loop-is_post-smaller-then-is_post c =
    (posted c.args.device c.args.now c.args.world.now c.loop-is_post.posts c.loop-is_post.world c.loop-is_post.next c.deliver.new.world c.in-Some.is_post c.if-is_post.true c.in-Some.ensures c.loop-is_post.invariant c.in_ok-deliver.ensures).1

pub loop-is_post-preserved-then-is_post : goal.loop-is_post-preserved-then-is_post
loop-is_post-preserved-then-is_post c =
    (posted c.args.device c.args.now c.args.world.now c.loop-is_post.posts c.loop-is_post.world c.loop-is_post.next c.deliver.new.world c.in-Some.is_post c.if-is_post.true c.in-Some.ensures c.loop-is_post.invariant c.in_ok-deliver.ensures).0

pub loop-is_post-smaller : goal.loop-is_post-smaller
loop-is_post-smaller c =
    (not_posted c.args.device c.args.now c.args.world.now c.loop-is_post.posts c.loop-is_post.world c.loop-is_post.next c.deliver.new.world c.in-Some.is_post c.if-is_post.false c.in-Some.ensures c.loop-is_post.invariant c.in_ok-deliver.ensures).1

pub loop-is_post-preserved : goal.loop-is_post-preserved
loop-is_post-preserved c =
    (not_posted c.args.device c.args.now c.args.world.now c.loop-is_post.posts c.loop-is_post.world c.loop-is_post.next c.deliver.new.world c.in-Some.is_post c.if-is_post.false c.in-Some.ensures c.loop-is_post.invariant c.in_ok-deliver.ensures).0
