use Rattle.std.proofs.Common.{◌≡◌}
use Rattle.ss_build.specs.Rows.{readings}
use Rattle.ss_build.proofs.rows.readings.Given as goal

abbrev pub invariant-loop-row : goal.invariant-loop-row
invariant-loop-row l = l.told.items ≡ readings l.yielded
