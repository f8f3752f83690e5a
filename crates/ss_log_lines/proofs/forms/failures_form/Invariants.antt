use Rattle.std.proofs.Common.{take}
use Rattle.std.specs.List.{AllByRecursion}
use Rattle.ss_log_lines.specs.Requests.{IsFailure}
use Rattle.ss_log_lines.proofs.forms.failures_form.Given as goal

abbrev pub invariant-loop-failure : goal.invariant-loop-failure
invariant-loop-failure l = AllByRecursion IsFailure (take l.failure-index l.failures)
