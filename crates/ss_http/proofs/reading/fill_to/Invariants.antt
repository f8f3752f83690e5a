use Rattle.std.proofs.Common.{◌≡◌, ◌≤◌, ◌-◌, length}
use Rattle.ss_http.specs.Buffers.{Brings}
use Rattle.ss_http.proofs.reading.fill_to.Given as goal
use Rattle.ss_http.specs.declared.limits.TheConstants.{ROOM}

abbrev pub invariant-bodies : goal.invariant-bodies
invariant-bodies g l = record {
  stop : l.buffer.stop ≡ l.fn.buffer.stop;
  bytes : Brings l.fn.buffer.bytes l.buffer.bytes (g.S.Told.told l.fn.source) (g.S.Told.told l.source);
  faults : (g.S.Told.told l.source).read_faults ≡ (g.S.Told.told l.fn.source).read_faults;
  ready : l.size ≤ length l.fn.buffer.bytes → (l.buffer ≡ l.fn.buffer) × (g.S.Told.told l.source ≡ g.S.Told.told l.fn.source);
}

abbrev pub decreases-bodies : goal.decreases-bodies
decreases-bodies g l = ROOM - length l.buffer.bytes
