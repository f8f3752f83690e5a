use Rattle.std.proofs.Common.{◌≡◌, ◌≤◌, ◌<◌, ◌-◌, length}
use Rattle.httparse.specs.Grammar.{HasNoResponse}
use Rattle.ss_http.specs.Buffers.{Brings}
use Rattle.ss_http.proofs.hearing.read_line.Given as goal
use Rattle.ss_http.specs.declared.limits.TheConstants.{HEAD_ROOM}

abbrev pub invariant-bytes : goal.invariant-bytes
invariant-bytes g l = record {
  bytes : Brings l.fn.head.items l.head.items (g.S.Told.told l.fn.source) (g.S.Told.told l.source);
  faults : (g.S.Told.told l.source).read_faults ≡ (g.S.Told.told l.fn.source).read_faults;
  headless : HasNoResponse l.head.items;
  short : length l.head.items < HEAD_ROOM;
  more : length l.fn.head.items ≤ length l.head.items;
}

abbrev pub decreases-bytes : goal.decreases-bytes
decreases-bytes g l = HEAD_ROOM - length l.head.items
