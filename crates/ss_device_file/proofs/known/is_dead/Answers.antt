use Rattle.std.proofs.Common.{◌∙◌}
use Rattle.ss_device_file.proofs.Found.{dead_is}
use Rattle.ss_device_file.proofs.known.is_dead.Goals as goal

pub returns : goal.returns
returns c = c.contains_key.ensures ∙ dead_is c.args.id.now c.args.dead.now.entries
