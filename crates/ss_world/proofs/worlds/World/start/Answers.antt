use Rattle.ss_world.specs.Worlds.{server_of}
use Rattle.ss_world.proofs.Stepping.{both, starts}
use Rattle.ss_world.proofs.worlds.World.start.Goals as goal

pub returns-clause-happens : goal.returns-clause-happens
returns-clause-happens c =
    both c.start_at.result (λ begins none. starts c.args.self.now (server_of c.self.inside.account) c.self.inside.seats.items c.start_at.new.seats.items c.args.n c.args.fetch c.self.view_is none begins) c.start_at.ensures.started c.start_at.ensures.begins
