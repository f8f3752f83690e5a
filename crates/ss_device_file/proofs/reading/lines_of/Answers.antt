use Rattle.std.proofs.Common.{◌∙◌}
use Rattle.ss_device_file.proofs.Behind.{bad_behind}
use Rattle.ss_device_file.proofs.reading.lines_of.Goals as goal

pub returns-else-front-bytes-clause-refused : goal.returns-else-front-bytes-clause-refused
returns-else-front-bytes-clause-refused c = bad_behind c.args.bytes.now c.in-Ok.front c.len.result c.in-Ok.ensures.front c.if-front-bytes.false (c.len.ensures ∙ c.in-Ok.front.lines.ok.0)
