use Rattle.std.proofs.Common.{arith}
use Rattle.std.proofs.lemmas.Grind.{common_steps}
use Rattle.ss_lines.proofs.Written.{stamp_plain}
use Rattle.ss_commits.proofs.marks.push_time.Goals as goal

pub returns : goal.returns
returns c = rw (stamp_plain c.args.stamp c.get-time.ensures.range) (grind (arith, common_steps))
