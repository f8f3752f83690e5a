use Rattle.ss_audit.proofs.Verdicts.{legal_log}
use Rattle.ss_audit.proofs.laws.sound_logs_are_legal.Goals as goal

pub returns : goal.returns
returns c = legal_log
