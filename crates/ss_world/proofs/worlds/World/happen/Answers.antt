use Rattle.std.proofs.Common.{sym, subst}
use Rattle.ss_world.specs.Worlds.{server_of}
use Rattle.ss_world.specs.Happening.{Happens}
use Rattle.ss_world.proofs.Stepping.{reopened, ticked, world}
use Rattle.ss_world.proofs.worlds.World.happen.Goals as goal

pub returns-in-Tick-clause-happens : goal.returns-in-Tick-clause-happens
returns-in-Tick-clause-happens c =
    subst (λ x. Happens c.args.self.now x (world (server_of c.tick.new.account) c.self.inside.seats.items)) (sym c.in-Tick.is)
    (ticked c.args.self.now (server_of c.self.inside.account) (server_of c.tick.new.account) c.self.inside.seats.items c.in-Tick.now c.self.view_is c.tick.ensures.ticks)

pub returns-in_ok-reopen-in-Reopen-clause-happens :
    goal.returns-in_ok-reopen-in-Reopen-clause-happens
returns-in_ok-reopen-in-Reopen-clause-happens c =
    subst (λ x. Happens c.args.self.now x (world (server_of c.reopen.new.account) c.self-in-Reopen.inside.seats.items)) (sym c.in-Reopen.is)
    (reopened c.args.self.now (server_of c.self-in-Reopen.inside.account) (server_of c.reopen.new.account) c.self-in-Reopen.inside.seats.items c.self-in-Reopen.view_is c.in_ok-reopen-in-Reopen.ensures.reopens)
