use Rattle.std.proofs.Common.{◌≡◌, ◌≤◌, ◌-◌, length}
use Rattle.ss_outside.specs.Told.{HasRead}
use Rattle.ss_http.specs.Listening.{IsNoLonger}
use Rattle.ss_http.proofs.hearing.read_answer.Given as goal
use Rattle.ss_http.specs.declared.limits.TheConstants.{HEAD_ROOM}

abbrev pub invariant-heads : goal.invariant-heads
invariant-heads g l = record {
  bytes : HasRead l.head.items (g.S.Told.told l.fn.source) (g.S.Told.told l.source);
  faults : (g.S.Told.told l.source).read_faults ≡ (g.S.Told.told l.fn.source).read_faults;
  whole : IsNoLonger l.head.items;
  room : length l.head.items ≤ HEAD_ROOM;
}

abbrev pub decreases-heads : goal.decreases-heads
decreases-heads g l = HEAD_ROOM - length l.head.items
