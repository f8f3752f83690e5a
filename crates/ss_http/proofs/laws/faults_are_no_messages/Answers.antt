use Rattle.ss_http.proofs.HeadLemmas.{fault_no_message, refusal_never}
use Rattle.ss_http.proofs.laws.faults_are_no_messages.Goals as goal

pub returns-clause-none : goal.returns-clause-none
returns-clause-none c = fault_no_message

pub returns-clause-never : goal.returns-clause-never
returns-clause-never c = refusal_never
