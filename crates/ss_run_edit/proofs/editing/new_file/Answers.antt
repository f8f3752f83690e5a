use Rattle.std.proofs.Common.{◌∙◌}
use Rattle.ss_device_file.proofs.Alike.{fresh_is}
use Rattle.ss_run_edit.proofs.editing.new_file.Goals as goal

pub returns-clause-file : goal.returns-clause-file
returns-clause-file c = c.in_ok-write_device.ensures.text ∙ fresh_is _ c.in_ok-write_device.ensures.formed c.in_ok-device.ensures
