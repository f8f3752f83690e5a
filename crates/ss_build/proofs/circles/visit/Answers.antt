use Rattle.std.proofs.Common.{◌≡◌, ◌+◌, get_or, arith}
use Rattle.ss_build.proofs.Visiting.{at_top, round_open, round_closed, circle_free, own_end, old_end}
use Rattle.ss_build.proofs.circles.visit.Goals as goal
use Rattle.ss_build.proofs.circles.visit.Goals.{else-end-next-via-then-end-next+else-seen-end}
use Rattle.ss_build.proofs.circles.visit.Goals.{else-end-next-via-else-end-next}

pub mark-requires-clause-free : goal.mark-requires-clause-free
mark-requires-clause-free c =
    circle_free c.args.next.now c.args.seen.now c.walk-end.new.seen c.args.circles.now c.args.start c.walk-end.result c.requires.inside c.requires.rounds c.walk-end.ensures c.if-end-next.true
    (own_end c.args.next.now c.args.seen.now c.walk-end.new.seen c.args.circles.now c.args.start c.walk-end.result c.requires.inside c.requires.rounds c.walk-end.ensures c.if-seen-end.true)
    (let e : get_or c.walk-end.new.seen c.walk-end.result 0 ≡ c.args.start + 1 = c.if-seen-end.true in omega arith)

pub returns-then-seen-end : goal.returns-then-seen-end
returns-then-seen-end c =
    round_closed c.args.next.now c.args.seen.now c.walk-end.new.seen c.args.circles.now c.args.start c.walk-end.result c.requires.inside c.requires.rounds c.walk-end.ensures c.mark.new.circles c.if-end-next.true
    (own_end c.args.next.now c.args.seen.now c.walk-end.new.seen c.args.circles.now c.args.start c.walk-end.result c.requires.inside c.requires.rounds c.walk-end.ensures c.if-seen-end.true)
    (let e : get_or c.walk-end.new.seen c.walk-end.result 0 ≡ c.args.start + 1 = c.if-seen-end.true in omega arith)
    c.mark.ensures

pub returns-else-end-next : goal.returns-else-end-next
returns-else-end-next c =
    round_open c.args.next.now c.args.seen.now c.walk-end.new.seen c.args.circles.now c.args.start c.walk-end.result c.requires.inside c.requires.rounds c.walk-end.ensures
    (elim c.else-end-next.branch [
      | else-end-next-via-then-end-next+else-seen-end w ↦ old_end c.args.next.now c.args.seen.now c.walk-end.new.seen c.args.circles.now c.args.start c.walk-end.result c.requires.inside c.requires.rounds c.walk-end.ensures w.if-seen-end.false
      | else-end-next-via-else-end-next w ↦ at_top w.if-end-next.false c.walk-end.ensures.ended
    ])
