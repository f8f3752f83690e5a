use Rattle.std.proofs.Common.{◌-◌, length}
use Rattle.ss_logs.specs.Fronts.{AreReadTo}
use Rattle.ss_logs.proofs.reading.read_logs.Given as goal

abbrev pub invariant-logs : goal.invariant-logs
invariant-logs l = AreReadTo l.bytes l.reading.logs.items l.reading.used l.reading.lines

abbrev pub decreases-logs : goal.decreases-logs
decreases-logs l = length l.bytes - l.reading.used
