use Rattle.std.proofs.Common.{◌≡◌, ◌∷◌, [], ◌∙◌}
use Rattle.std.proofs.lemmas.Result.{IfErr-weaker, IfOk-weaker}
use Rattle.ss_logs.specs.declared.faults.LogFault.TheVariants.{Memory}
use Rattle.ss_logs.specs.Logs.{AreLogs, IsWhyNoLogs, log_of}
use Rattle.ss_logs.proofs.Written.{read_again, refused_again}
use Rattle.ss_logs.proofs.laws.read_written_log.Goals as goal

pub returns-clause-read : goal.returns-clause-read
returns-clause-read c =
    IfOk-weaker c.read_logs.result (λ logs. AreLogs c.as_slice.result.now logs.items) (λ logs. logs.items ≡ log_of c.args.journal.now ∷ [])
    (λ logs are. read_again c.args.journal.now c.as_slice.result.now logs.items c.journal_form.ensures (c.as_slice.ensures.value ∙ c.in_ok-text.ensures) are) c.read_logs.ensures.logs

pub returns-clause-memory : goal.returns-clause-memory
returns-clause-memory c =
    IfErr-weaker c.read_logs.result (λ fault. IsWhyNoLogs c.as_slice.result.now fault) (λ fault. fault ≡ Memory)
    (λ fault r. refused_again c.args.journal.now c.as_slice.result.now fault c.journal_form.ensures (c.as_slice.ensures.value ∙ c.in_ok-text.ensures) r) c.read_logs.ensures.refused
