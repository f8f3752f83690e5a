use Rattle.ss_device_file.specs.Walking.{seats_on}
use Rattle.ss_device_file.proofs.Walked.{IsWalked}
use Rattle.ss_device_file.proofs.walk.check_places.Given as goal

abbrev pub invariant-loop-line : goal.invariant-loop-line
invariant-loop-line l = IsWalked l.items l.line-index (seats_on l.waiting.items) l.met.keys
