use Rattle.ss_logs.proofs.Written.{same_opening, told, told_one}
use Rattle.ss_logs.proofs.laws.a_log_tells_its_journal.Goals as goal

pub returns : goal.returns
returns c = record { log = told; no_other = told_one; same = same_opening }
