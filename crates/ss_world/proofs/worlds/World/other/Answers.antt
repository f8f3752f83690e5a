use Rattle.std.proofs.Common.{sym, ◌∙◌}
use Rattle.ss_world.specs.declared.events.Event.TheVariants.{Other}
use Rattle.ss_world.specs.Worlds.{server_of}
use Rattle.ss_world.proofs.Stepping.{asked, unserved, wanted, world}
use Rattle.ss_world.proofs.worlds.World.other.Goals as goal

pub returns-in_err-_reply-clause-refused : goal.returns-in_err-_reply-clause-refused
returns-in_err-_reply-clause-refused c =
    let after = server_of c.ask.new.account in
    let seats = c.self.inside.seats.items in
    wanted c.from_residual.result c.args.self.now (Other c.args.now c.args.request.now) (world after seats)
    (unserved c.args.self.now (server_of c.self.inside.account) after seats c.args.now c.args.request.now c.self.view_is (sym c.touches.ensures ∙ c.if-touches.false) c.in_err-_reply.ensures.ticks) c.from_residual.ensures.1

pub returns-clause-happens : goal.returns-clause-happens
returns-clause-happens c =
    asked c.args.self.now (server_of c.self.inside.account) (server_of c.ask.new.account) c.self.inside.seats.items c.args.now c.args.request.now c.self.view_is (sym c.touches.ensures ∙ c.if-touches.false) c.in_ok-_reply.ensures.answers
