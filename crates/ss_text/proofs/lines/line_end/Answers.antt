use Rattle.std.proofs.Common.{◌==◌}
use Rattle.ss_text.proofs.Searches.{first_is_position}
use Rattle.ss_text.proofs.lines.line_end.Goals as goal

pub returns : goal.returns
returns c = first_is_position (λ b. b == 10) c.args.text.now c.memchr.result c.memchr.ensures
