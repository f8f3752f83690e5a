use Rattle.std.proofs.Common.{rules}
use Rattle.ss_desk.proofs.Splitting.{splits}
use Rattle.ss_desk.proofs.Answering.{wide_of}
use Rattle.ss_desk.proofs.pass.RawPass+T+T+Fixed+T+Entry.split.Goals as goal

pub split_seat-seat-requires : goal.split_seat-seat-requires
split_seat-seat-requires g c = let k = g.T.Journaled in let s = c.args.desk.now.table.shared in let a = c.args.self.now in
    (search rules, search rules, splits k.ticket_of k.pass_of k.fixed k.entries k.legal (k.fixed s.key.value) a.seat.id a.seat.me.0 a.rests.1 (wide_of a.seat.me.0 c.requires.many))
