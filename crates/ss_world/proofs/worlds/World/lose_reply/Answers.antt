use Rattle.std.proofs.Common.{subst}
use Rattle.ss_serving.specs.Steps.{Answers}
use Rattle.ss_world.specs.declared.events.Event.TheVariants.{LoseReply}
use Rattle.ss_world.specs.Worlds.{server_of}
use Rattle.ss_world.proofs.Stepping.{lost, unanswered_loss, unasked_loss, wanted, world}
use Rattle.ss_world.proofs.worlds.World.lose_reply.Goals as goal

pub returns-in_err-request-clause-refused : goal.returns-in_err-request-clause-refused
returns-in_err-request-clause-refused c =
    let before = server_of c.self.inside.account in
    let seats = c.self.inside.seats.items in
    wanted c.from_residual-in_err-request.result c.args.self.now (LoseReply c.args.n c.args.now) c.args.self.now
    (unasked_loss c.args.self.now before seats c.args.n c.args.now c.in_ok-machine.machine.now c.self.view_is (rw c.as_slice.ensures.value at c.in_ok-machine.ensures.there)) c.from_residual-in_err-request.ensures.1

pub returns-in_err-_reply-clause-refused : goal.returns-in_err-_reply-clause-refused
returns-in_err-_reply-clause-refused c =
    let before = server_of c.self.inside.account in
    let after = server_of c.ask.new.account in
    let seats = c.self.inside.seats.items in
    wanted c.from_residual-in_err-_reply.result c.args.self.now (LoseReply c.args.n c.args.now) (world after seats)
    (unanswered_loss c.args.self.now before seats c.args.n c.args.now c.in_ok-machine.machine.now c.self.view_is (rw c.as_slice.ensures.value at c.in_ok-machine.ensures.there) after c.in_err-_reply.ensures.ticks) c.from_residual-in_err-_reply.ensures.1

pub returns-clause-happens : goal.returns-clause-happens
returns-clause-happens c =
    lost c.args.self.now (server_of c.self.inside.account) (server_of c.ask.new.account) c.self.inside.seats.items c.idle_at.new.seats.items c.args.n c.args.now c.in_ok-machine.machine.now c.self.view_is
    (rw c.as_slice.ensures.value at c.in_ok-machine.ensures.there)
    (subst (λ x. Answers (server_of c.self.inside.account) c.args.now x (server_of c.ask.new.account)) c.in_ok-request.ensures.asked c.in_ok-_reply.ensures.answers) c.idle_at.ensures
