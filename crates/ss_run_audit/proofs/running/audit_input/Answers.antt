use Rattle.std.proofs.Common.{refl}
use Rattle.ss_run_audit.specs.Runs.{unread}
use Rattle.ss_run_audit.proofs.Audited.{refused_by, told_of, without_memory}
use Rattle.ss_run_audit.proofs.running.audit_input.Goals as goal

pub returns-in-Err : goal.returns-in-Err
returns-in-Err g c = unread c.in-Err.fault c.in-Err.ensures.unread c.from.ensures refl

pub returns-in-Ok-telling : goal.returns-in-Ok-telling
returns-in-Ok-telling g c =
    told_of c.in-Ok.text.items c.as_slice.result.now c.in-Ok-audited.verdict c.in-Ok-telling.line.items c.as_slice-in-Ok-telling.result.now c.write_out.result _ _ _ _ c.in-Ok.ensures.whole c.as_slice.ensures.value
    c.in-Ok-audited.ensures.verdict c.in-Ok-telling.ensures c.as_slice-in-Ok-telling.ensures.value c.write_out.ensures

pub returns-in-Ok-audited : goal.returns-in-Ok-audited
returns-in-Ok-audited g c = without_memory c.in-Ok.text.items _ _ _ c.in-Ok.ensures.whole

pub returns : goal.returns
returns g c =
    refused_by c.in-Ok.text.items c.as_slice.result.now c.in-Err-audited.fault c.from-in-Err-audited.result _ _ _ c.in-Ok.ensures.whole c.as_slice.ensures.value c.in-Err-audited.ensures.refused c.from-in-Err-audited.ensures
