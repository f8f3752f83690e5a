use Rattle.std.proofs.Common.{◌-◌, length}
use Rattle.ss_device_file.proofs.Chained.{AreRead}
use Rattle.ss_device_file.proofs.front.read_front.Given as goal

abbrev pub invariant-lines : goal.invariant-lines
invariant-lines l = AreRead l.text l.lines.items l.used

abbrev pub decreases-lines : goal.decreases-lines
decreases-lines l = length l.text - l.used
