use Rattle.std.proofs.Common.{arith}
use Rattle.ss_flat.specs.States.{time_of}
use Rattle.ss_flat.proofs.VisitLemmas.{next_noted}
use Rattle.ss_flat.proofs.visits.note_all.Goals as goal

pub loop-i-preserved : goal.loop-i-preserved
loop-i-preserved c =
    let inv = c.loop-i.invariant in
    record {
      times = λ v. next_noted v c.args.more.now.entries c.loop-i.i (time_of v c.args.times.now.entries) (time_of v c.loop-i.times.entries) (time_of v c.note_at.new.times.entries) c.requires.apart (inv.times v) (c.note_at.ensures.times v);
      room = omega (arith, inv.room, c.note_at.ensures.room);
      once = c.note_at.ensures.once inv.once;
    }
