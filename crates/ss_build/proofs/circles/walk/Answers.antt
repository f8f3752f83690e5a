use Rattle.std.proofs.Common.{◌≡◌, ◌<◌, length, arith}
use Rattle.ss_build.proofs.Walking.{walking_begins, walking_goes, walking_fewer}
use Rattle.ss_build.proofs.circles.walk.Goals as goal

pub loop-at-init : goal.loop-at-init
loop-at-init c = walking_begins c.args.next.now c.args.seen.now c.args.number c.args.start c.requires.inside c.requires.closed

pub loop-at-smaller : goal.loop-at-smaller
loop-at-smaller c = walking_fewer c.loop-at.seen c.loop-at.at c.args.number (let a : length c.loop-at.seen ≡ length c.args.seen.now = c.loop-at.auto.seen in let b : length c.args.seen.now ≡ length c.args.next.now = c.requires.same_length in let lt : c.loop-at.at < length c.args.next.now = c.loop-at-test.true in omega arith) c.if-seen-at-eq0.true c.requires.some

pub loop-at-preserved : goal.loop-at-preserved
loop-at-preserved c = walking_goes c.args.next.now c.args.seen.now c.loop-at.seen c.args.number c.args.start c.loop-at.at c.requires.bounded c.requires.same_length c.requires.some c.loop-at-test.true c.if-seen-at-eq0.true c.loop-at.invariant
