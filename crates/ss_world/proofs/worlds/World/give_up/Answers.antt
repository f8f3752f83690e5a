use Rattle.ss_world.specs.Worlds.{server_of}
use Rattle.ss_world.proofs.Stepping.{given_up}
use Rattle.ss_world.proofs.worlds.World.give_up.Goals as goal

pub returns-clause-happens : goal.returns-clause-happens
returns-clause-happens c =
    given_up c.args.self.now (server_of c.self.inside.account) c.self.inside.seats.items c.idle_at.new.seats.items c.args.n c.in_ok-_machine._machine.now c.self.view_is
    (rw c.as_slice.ensures.value at c.in_ok-_machine.ensures.there) c.idle_at.ensures
