use Rattle.ss_log_lines.proofs.Listed.{array_is}
use Rattle.ss_log_lines.proofs.arrays.push_some.Goals as goal

pub returns : goal.returns
returns g c =
    cc (array_is g.T.Written.json c.args.out.now.items c.args.first.now c.args.rest.now, c.in_ok-push.ensures.items, c.in_ok-push-2.ensures, c.in_ok-push_behind.ensures, c.in_ok-push-3.ensures.items)
