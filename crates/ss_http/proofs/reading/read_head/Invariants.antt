use Rattle.std.proofs.Common.{◌≡◌, ◌-◌, length}
use Rattle.ss_http.specs.Buffers.{Brings}
use Rattle.ss_http.specs.Reading.{DecidesHead}
use Rattle.ss_http.proofs.reading.read_head.Given as goal
use Rattle.ss_http.specs.declared.limits.TheConstants.{ROOM}

abbrev pub invariant-heads : goal.invariant-heads
invariant-heads g l = record {
  stop : l.buffer.stop ≡ l.fn.buffer.stop;
  bytes : Brings l.fn.buffer.bytes l.buffer.bytes (g.S.Told.told l.fn.source) (g.S.Told.told l.source);
  faults : (g.S.Told.told l.source).read_faults ≡ (g.S.Told.told l.fn.source).read_faults;
  ready : DecidesHead l.fn.buffer.bytes → (l.buffer ≡ l.fn.buffer) × (g.S.Told.told l.source ≡ g.S.Told.told l.fn.source);
}

abbrev pub decreases-heads : goal.decreases-heads
decreases-heads g l = ROOM - length l.buffer.bytes
