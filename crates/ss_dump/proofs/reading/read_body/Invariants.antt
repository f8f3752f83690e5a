use Rattle.std.proofs.Common.{◌≡◌, ◌-◌, false, length}
use Rattle.ss_dump.specs.Stages.{IsReadTo, stage_state}
use Rattle.ss_dump.specs.Telling.{is_whole}
use Rattle.ss_dump.proofs.reading.read_body.Given as goal

abbrev pub invariant-lines : goal.invariant-lines
invariant-lines l = record {
  read : IsReadTo l.bytes (stage_state l.reading.stage) l.reading.used l.reading.body l.reading.count;
  going : is_whole (stage_state l.reading.stage) ≡ false;
}

abbrev pub decreases-lines : goal.decreases-lines
decreases-lines l = length l.bytes - l.reading.used
