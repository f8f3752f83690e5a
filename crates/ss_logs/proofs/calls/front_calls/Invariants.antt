use Rattle.std.proofs.Common.{◌-◌, length}
use Rattle.ss_logs.specs.Fronts.{AreReadCalls}
use Rattle.ss_logs.proofs.calls.front_calls.Given as goal

abbrev pub invariant-calls : goal.invariant-calls
invariant-calls l = AreReadCalls l.bytes l.entries.items l.used

abbrev pub decreases-calls : goal.decreases-calls
decreases-calls l = length l.bytes - l.used
