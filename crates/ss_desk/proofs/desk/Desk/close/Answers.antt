use Rattle.std.proofs.Common.{refl, subst, sym, ◌∙◌, Some, ◌≡◌}
use Rattle.std.specs.Option.{IsSome}
use Rattle.std.specs.Slots.{slots_items}
use Rattle.ss_desk.specs.Calls.{IsValueAtClose}
use Rattle.ss_desk.proofs.Closing.{closes}
use Rattle.ss_desk.proofs.Answering.{live_of}
use Rattle.ss_desk.proofs.desk.Desk.close.Goals as goal

pub unwrap-requires : goal.unwrap-requires
unwrap-requires g c = let k = g.T.Journaled in let s = c.args.self.table.shared in let p = c.args.pass in let done = c.close_with-closed in
    let t = closes k.ticket_of k.pass_of k.fixed k.entries k.legal (k.fixed s.key.value) p.seat.id p.seat.me.0 (slots_items done.result.words) (slots_items done.result.slots) c.take-slot.result p.rests.1 (live_of p.seat.me.0 p.first p.end p.rests.2 p.rests.3) c.requires.all done.ensures.values.2 c.take-slot.ensures.value in
    subst IsSome (sym t.1) refl

pub returns : goal.returns
returns g c = let k = g.T.Journaled in let s = c.args.self.table.shared in let p = c.args.pass in let done = c.close_with-closed in
    let t = closes k.ticket_of k.pass_of k.fixed k.entries k.legal (k.fixed s.key.value) p.seat.id p.seat.me.0 (slots_items done.result.words) (slots_items done.result.slots) c.take-slot.result p.rests.1 (live_of p.seat.me.0 p.first p.end p.rests.2 p.rests.3) c.requires.all done.ensures.values.2 c.take-slot.ensures.value in
    let both : Some t.0 ≡ Some c.unwrap.result = sym t.1 ∙ c.unwrap.ensures in let same : t.0 ≡ c.unwrap.result = cc in
    record { finished = subst (IsValueAtClose k.ticket_of k.pass_of k.fixed k.entries k.legal p.seat.me.0) same t.2 }
