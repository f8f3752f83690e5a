use Rattle.std.proofs.Common.{◌≡◌, ◌<◌, length, arith}
use Rattle.ss_build.proofs.Marking.{marking_begins, marking_goes, marking_inside, marking_fewer, marking_ends}
use Rattle.ss_build.proofs.circles.mark.Goals as goal

pub loop-circles-init : goal.loop-circles-init
loop-circles-init c = (marking_begins c.args.next.now c.args.circles.now c.args.first c.requires.back c.requires.free, c.requires.inside)

pub loop-circles-smaller : goal.loop-circles-smaller
loop-circles-smaller c = marking_fewer c.loop-circles.circles c.loop-circles.at (let a : length c.loop-circles.circles ≡ length c.args.circles.now = c.loop-circles.auto.circles in let b : length c.args.circles.now ≡ length c.args.next.now = c.requires.same_length in let lt : c.loop-circles.at < length c.args.next.now = c.loop-circles.invariant.1 in omega arith) c.loop-circles-test.true

pub loop-circles-preserved : goal.loop-circles-preserved
loop-circles-preserved c =
    let m = marking_goes c.args.next.now c.args.circles.now c.loop-circles.circles c.args.first c.loop-circles.at c.requires.same_length c.requires.inside c.loop-circles.invariant.1 c.requires.back c.loop-circles.invariant.0 in
    (m, marking_inside c.args.next.now c.args.circles.now _ c.args.first _ c.requires.bounded c.requires.inside m)

pub returns : goal.returns
returns c = marking_ends c.args.next.now c.args.circles.now c.loop-circles.circles c.args.first c.loop-circles.at c.requires.same_length c.loop-circles-test.false c.loop-circles.invariant.0
