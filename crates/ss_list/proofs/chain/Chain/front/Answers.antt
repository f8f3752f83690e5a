use Rattle.ss_list.proofs.Calls.{lies_from_sound, front_seen, front_live}
use Rattle.ss_list.proofs.chain.Chain.front.Goals as goal

pub returns-clause-first : goal.returns-clause-first
returns-clause-first g c = rw (← c.self.view_is, c.of_link.ensures) (front_seen c.self.invariant)

pub returns-clause-live : goal.returns-clause-live
returns-clause-live g c =
    rw (← c.self.view_is, c.of_link.ensures) (front_live (lies_from_sound c.self.inside.nodes.items c.self.inside.ends c.self.inside.free c.self.inside.len c.self.inside.spare c.self.invariant))
