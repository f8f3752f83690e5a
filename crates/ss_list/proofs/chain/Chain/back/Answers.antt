use Rattle.ss_list.proofs.Calls.{lies_from_sound, back_seen, back_live}
use Rattle.ss_list.proofs.chain.Chain.back.Goals as goal

pub returns-clause-last : goal.returns-clause-last
returns-clause-last g c = rw (← c.self.view_is, c.of_link.ensures) (back_seen c.self.invariant)

pub returns-clause-live : goal.returns-clause-live
returns-clause-live g c =
    rw (← c.self.view_is, c.of_link.ensures) (back_live (lies_from_sound c.self.inside.nodes.items c.self.inside.ends c.self.inside.free c.self.inside.len c.self.inside.spare c.self.invariant))
