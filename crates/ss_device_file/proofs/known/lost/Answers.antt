use Rattle.std.proofs.Common.{sym, ◌∙◌}
use Rattle.ss_tree.specs.Entries.{tree}
use Rattle.ss_device.specs.Device.{row_ids}
use Rattle.ss_device.proofs.Known.{by_id_apart}
use Rattle.ss_device_file.proofs.Found.{lost_is}
use Rattle.ss_device_file.proofs.known.lost.Goals as goal

pub returns : goal.returns
returns c = c.in_ok-id.ensures ∙ sym (lost_is c.args.mirror.now (tree c.args.tree.now) c.args.dead.now.entries c.requires.roots (by_id_apart (row_ids c.args.mirror.now) c.requires.by_id))
