-- An input whose logs are audited.
use Rattle.std.proofs.Common.{◌≡◌, List, ℕ, refl, subst, ◌∙◌}
use Rattle.ss_outside.specs.Told.{Meanings}
use Rattle.ss_input.specs.Inputs.{IsWhole}
use Rattle.ss_laws.specs.Journal.{Journal}
use Rattle.ss_logs.specs.declared.faults.LogFault.{LogFault}
use Rattle.ss_logs.specs.declared.faults.LogFault.TheVariants as log
use Rattle.ss_logs.specs.Logs.{AreLogs, IsWhyNoLogs}
use Rattle.ss_audit.specs.declared.verdict.Verdict.{Verdict}
use Rattle.ss_audit.specs.Verdicts.{IsVerdict}
use Rattle.ss_run_audit.specs.declared.endings.Ending.{Ending}
use Rattle.ss_run_audit.specs.declared.endings.Ending.TheVariants.{Memory}
use Rattle.ss_run_audit.specs.Endings.{Wrote, refused_end, told_end}
use Rattle.ss_run_audit.specs.Runs.{Audits, IsAuditOf, refused, told}
use Rattle.ss_run_audit.specs.Tellings.{verdict_text}

pub audit_of : (text : List ℕ) (logs : List Journal) (verdict : Verdict) → AreLogs text logs → IsVerdict logs verdict → IsAuditOf text verdict
audit_of text logs verdict a v = record { logs = logs; are = a; verdict_is = v }

pub told_of : (text slice : List ℕ) (verdict : Verdict) (line piece : List ℕ) (e : Ending) (a b c d : Meanings) → IsWhole text a b → slice ≡ text → IsAuditOf slice verdict → line ≡ verdict_text verdict → piece ≡ line → Wrote piece (told_end verdict) e c d → Audits e a b c d
told_of text slice verdict line piece e a b c d w s h l p o =
    told text verdict w (subst (λ t. IsAuditOf t verdict) s h) (subst (λ t. Wrote t (told_end verdict) e c d) (p ∙ l) o)

pub refused_by : (text slice : List ℕ) (fault : LogFault) (e : Ending) (a b c : Meanings) → IsWhole text a b → slice ≡ text → IsWhyNoLogs slice fault → e ≡ refused_end fault → Audits e a b c c
refused_by text slice fault e a b c w s r is = refused text fault w (subst (λ t. IsWhyNoLogs t fault) s r) is refl

pub without_memory : (text : List ℕ) (a b c : Meanings) → IsWhole text a b → Audits Memory a b c c
without_memory text a b c w = refused text log.Memory w tt refl refl
