use Rattle.std.proofs.Common.{rules}
use Rattle.ss_desk.proofs.Joining.{joins}
use Rattle.ss_desk.proofs.Answering.{live_of}
use Rattle.ss_desk.proofs.desk.Desk.back.Goals as goal

pub join_seat-requires : goal.join_seat-requires
join_seat-requires g c = let k = g.T.Journaled in let s = c.args.self.now.table.shared in let a = c.args.into.now in let b = c.args.other in (
  search rules,
  search rules,
  b.rests.0,
  search rules,
  joins k.ticket_of k.pass_of k.fixed k.entries k.legal (k.fixed s.key.value) a.seat.id b.seat.id a.seat.me.0 b.seat.me.0 a.rests.1 b.rests.1
      (live_of a.seat.me.0 a.first a.end a.rests.2 a.rests.3) (live_of b.seat.me.0 b.first b.end b.rests.2 b.rests.3),
)
