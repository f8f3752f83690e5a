use Rattle.ss_audit.proofs.Verdicts.{Passed}
use Rattle.ss_audit.proofs.auditing.audit.Given as goal

abbrev pub invariant-loop-log : goal.invariant-loop-log
invariant-loop-log l = Passed l.logs l.log-index l.n l.entries l.last
