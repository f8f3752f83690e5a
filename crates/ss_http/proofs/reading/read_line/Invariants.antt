use Rattle.std.proofs.Common.{◌≡◌, ◌≤◌, ◌<◌, ◌-◌, length}
use Rattle.httparse.specs.Grammar.{HasNoRequest}
use Rattle.ss_http.specs.Buffers.{Brings}
use Rattle.ss_http.proofs.reading.read_line.Given as goal
use Rattle.ss_http.specs.declared.limits.TheConstants.{HEAD_ROOM, ROOM}

abbrev pub invariant-lines : goal.invariant-lines
invariant-lines g l = record {
  stop : l.buffer.stop ≡ l.fn.buffer.stop;
  bytes : Brings l.fn.buffer.bytes l.buffer.bytes (g.S.Told.told l.fn.source) (g.S.Told.told l.source);
  faults : (g.S.Told.told l.source).read_faults ≡ (g.S.Told.told l.fn.source).read_faults;
  headless : HasNoRequest l.buffer.bytes;
  short : length l.buffer.bytes < HEAD_ROOM;
  more : length l.fn.buffer.bytes ≤ length l.buffer.bytes;
}

abbrev pub decreases-lines : goal.decreases-lines
decreases-lines g l = ROOM - length l.buffer.bytes
