use Rattle.ss_desk.specs.declared.view.Stage.TheVariants.{Holds}
use Rattle.ss_desk.proofs.Answering.{enters_from, denied_from, caught_up}
use Rattle.ss_desk.proofs.desk.Desk.call.Goals as goal

pub returns-in-Ok-clause-entered : goal.returns-in-Ok-clause-entered
returns-in-Ok-clause-entered g c = let k = g.T.Journaled in let v = c.args.pass.now.seat.me.0 in let t = c.draw-ticket.result in
    let up = caught_up k.ticket_of k.pass_of k.fixed k.entries k.legal v t c.draw-ticket.new.seat.me c.await_turn.new.seat.me c.draw-ticket.ensures.waits c.await_turn.ensures.took in
    enters_from k.ticket_of k.pass_of k.ask_of k.legal k.replies k.full v c.await_turn.new.seat.me.0 c.serve.new.seat.me.0 (Holds t) up.0 t c.args.ask c.in-Ok.reply up.1 up.2 c.in-Ok.ensures.done

pub returns-in-Err-clause-full : goal.returns-in-Err-clause-full
returns-in-Err-clause-full g c = let k = g.T.Journaled in let v = c.args.pass.now.seat.me.0 in let t = c.draw-ticket.result in
    let up = caught_up k.ticket_of k.pass_of k.fixed k.entries k.legal v t c.draw-ticket.new.seat.me c.await_turn.new.seat.me c.draw-ticket.ensures.waits c.await_turn.ensures.took in
    denied_from k.ticket_of k.pass_of k.ask_of k.legal k.replies k.full v c.await_turn.new.seat.me.0 c.serve.new.seat.me.0 (Holds t) up.0 c.in-Err.full up.1 up.2 c.in-Err.ensures.done
