use Rattle.std.proofs.Common.{ap, is_some, ◌∙◌}
use Rattle.ss_device_file.proofs.Found.{there_is}
use Rattle.ss_device_file.proofs.known.is_there.Goals as goal

pub returns : goal.returns
returns c = c.is_some.ensures ∙ (ap is_some c.find.ensures.node ∙ there_is c.args.id.now c.args.tree.now)
