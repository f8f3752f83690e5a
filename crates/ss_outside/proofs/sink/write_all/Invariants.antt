use Rattle.std.proofs.Common.{◌≡◌, ◌≤◌, ◌-◌, length, take}
use Rattle.ss_outside.specs.Told.{HasWritten}
use Rattle.ss_outside.proofs.sink.write_all.Given as goal

-- what was written is the front of the piece
abbrev pub invariant-loop-at : goal.invariant-loop-at
invariant-loop-at g l = record {
  within : l.at ≤ length l.from;
  written : HasWritten (take l.at l.from) (g.T.Told.told l.fn.sink) (g.T.Told.told l.sink);
  faults : (g.T.Told.told l.sink).write_faults ≡ (g.T.Told.told l.fn.sink).write_faults;
}

abbrev pub decreases-loop-at : goal.decreases-loop-at
decreases-loop-at g l = length l.from - l.at
