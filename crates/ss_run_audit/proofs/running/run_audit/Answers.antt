use Rattle.std.proofs.Common.{refl}
use Rattle.ss_run_audit.specs.Runs.{audits}
use Rattle.ss_run_audit.proofs.running.run_audit.Goals as goal

pub returns-then-asks : goal.returns-then-asks
returns-then-asks g c = audits (c.if-asks.ensures.yes refl) c.audit_input-ending.ensures
