use Rattle.std.proofs.Common.{refl}
use Rattle.ss_run_edit.specs.Changes.{IsEditOf, RefusesEdit}
use Rattle.ss_run_edit.specs.Runs.{unread}
use Rattle.ss_run_edit.proofs.Turning.{made_of, none_made}
use Rattle.ss_run_edit.proofs.editing.edit_input.Goals as goal

pub returns-in-Err : goal.returns-in-Err
returns-in-Err g c = unread c.in-Err.fault c.from.ensures c.in-Err.ensures.unread refl

pub returns-in-Ok-edited : goal.returns-in-Ok-edited
returns-in-Ok-edited g c =
    made_of (IsEditOf c.args.change c.args.now) (RefusesEdit c.args.change) c.in-Ok.text.items c.as_slice.result.now c.in-Ok-edited.out.items c.as_slice-in-Ok-edited.result.now c.write_out.result _ _ _ _ c.in-Ok.ensures.whole c.as_slice.ensures.value c.in-Ok-edited.ensures.made
    c.as_slice-in-Ok-edited.ensures.value c.write_out.ensures

pub returns : goal.returns
returns g c =
    none_made (IsEditOf c.args.change c.args.now) (RefusesEdit c.args.change) c.in-Ok.text.items c.as_slice.result.now c.in-Err-edited.ending _ _ _ c.in-Ok.ensures.whole c.as_slice.ensures.value c.in-Err-edited.ensures.refused
