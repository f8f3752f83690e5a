use Rattle.std.proofs.Common.{rules}
use Rattle.ss_desk.proofs.Turns.{draws}
use Rattle.ss_desk.proofs.desk.Desk.draw.Goals as goal

pub fetch_add-requires : goal.fetch_add-requires
fetch_add-requires g c = let k = g.T.Journaled in let s = c.args.self.now.table.shared in let seat = c.args.seat.now in
    (search rules, search rules, draws k.ticket_of k.pass_of k.fixed k.entries k.legal (k.fixed s.key.value) s.table_id.slots seat.id seat.me c.requires.bare c.requires.idle c.requires.live)
