use Rattle.std.proofs.Common.{subst}
use Rattle.std.specs.List.{AllByRecursion}
use Rattle.ss_device.specs.Forms.{HasDeviceForm, IsRow}
use Rattle.ss_device.proofs.writing.write_device.Goals as goal

pub returns-clause-formed : goal.returns-clause-formed
returns-clause-formed c = subst HasDeviceForm c.device.view_is (record {
  device = c.device.invariant;
  valid = c.in_ok-push_nodes.ensures.valid;
  items = c.in_ok-push_nodes.ensures.formed;
  rows = subst (AllByRecursion IsRow) c.deref.ensures.value c.in_ok-push_rows.ensures.formed;
  deaths = c.in_ok-push_deaths.ensures.formed;
  stamp = c.time_form.ensures;
})
