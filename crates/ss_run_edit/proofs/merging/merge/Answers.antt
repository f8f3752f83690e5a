use Rattle.std.proofs.Common.{refl}
use Rattle.ss_run_edit.specs.Merging.{IsMergeOf, RefusesMerge}
use Rattle.ss_run_edit.specs.Runs.{unread}
use Rattle.ss_run_edit.proofs.Turning.{made_of, none_made}
use Rattle.ss_run_edit.proofs.merging.merge.Goals as goal

pub returns-in-Err : goal.returns-in-Err
returns-in-Err g c = unread c.in-Err.fault c.from.ensures c.in-Err.ensures.unread refl

pub returns-in-Ok-merged : goal.returns-in-Ok-merged
returns-in-Ok-merged g c =
    made_of IsMergeOf RefusesMerge c.in-Ok.text.items c.as_slice.result.now c.in-Ok-merged.out.items c.as_slice-in-Ok-merged.result.now c.write_out.result _ _ _ _ c.in-Ok.ensures.whole c.as_slice.ensures.value c.in-Ok-merged.ensures.made c.as_slice-in-Ok-merged.ensures.value c.write_out.ensures

pub returns : goal.returns
returns g c = none_made IsMergeOf RefusesMerge c.in-Ok.text.items c.as_slice.result.now c.in-Err-merged.ending _ _ _ c.in-Ok.ensures.whole c.as_slice.ensures.value c.in-Err-merged.ensures.refused
