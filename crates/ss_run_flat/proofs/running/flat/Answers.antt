use Rattle.std.proofs.Common.{refl}
use Rattle.ss_run_flat.specs.Runs.{unread}
use Rattle.ss_run_flat.proofs.Turning.{made_of, none_made}
use Rattle.ss_run_flat.proofs.running.flat.Goals as goal

pub returns-in-Err : goal.returns-in-Err
returns-in-Err g c = unread c.in-Err.fault c.from.ensures c.in-Err.ensures.unread refl

pub returns-in-Ok-flattened : goal.returns-in-Ok-flattened
returns-in-Ok-flattened g c =
    made_of c.args.kind c.in-Ok.text.items c.as_slice.result.now c.in-Ok-flattened.out.items c.as_slice-in-Ok-flattened.result.now c.write_out.result _ _ _ _ c.in-Ok.ensures.whole c.as_slice.ensures.value c.in-Ok-flattened.ensures.made
    c.as_slice-in-Ok-flattened.ensures.value c.write_out.ensures

pub returns : goal.returns
returns g c = none_made c.args.kind c.in-Ok.text.items c.as_slice.result.now c.in-Err-flattened.ending _ _ _ c.in-Ok.ensures.whole c.as_slice.ensures.value c.in-Err-flattened.ensures.refused
